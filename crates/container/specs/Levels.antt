-- The levels of a part's hash tree.
use Rattle.std.specs.Prelude.{ℕ, ◌==◌, if◌then◌else◌}
use Rattle.difi.specs.declared.places.LevelPlace.{LevelPlace}
use Rattle.difi.specs.declared.descriptor.Difi.{Difi}

-- a level by its number, as a descriptor says: 1 to 4
abbrev pub hash_level : Difi → ℕ → LevelPlace
hash_level difi level =
    if level == 1 then difi.ivfc1 else (if level == 2 then difi.ivfc2 else (if level == 3 then difi.ivfc3 else difi.ivfc4))
