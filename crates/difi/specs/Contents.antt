-- What a partition's double-copy tree gives to the layers above it.
use Rattle.std.specs.Prelude.{ℕ, ◌+◌, if◌then◌else◌}
use Rattle.difi.specs.declared.descriptor.Difi.{Difi}

-- how many bytes: the chosen contents of DPFS level 3, then external level four where there is one
abbrev pub view_size : Difi → ℕ
view_size difi = difi.dpfs3.size + (if difi.external then difi.ivfc4.size else 0)
