use Rattle.std.proofs.Common.{ℕ, List, sym, ap, ◌∙◌, arith, length, ◌≤◌}
use Rattle.container_header.specs.Conditions.{first_bytes, reading_of}
use Rattle.container_header.proofs.HeaderBytes.{reading_of-first}
use Rattle.container_header.proofs.HeaderRead.{ok_of_raw, ok_sound}
use Rattle.container_header.proofs.header.Header.read.Goals as goal

pub returns-clause-exact : goal.returns-clause-exact
returns-clause-exact c = λ image long is.
    c.read_sector.ensures
    ∙ ap (λ (bytes : List ℕ). reading_of bytes c.args.len) is
    ∙ ap (λ (n : ℕ). reading_of (first_bytes image) n) (sym long)
    ∙ reading_of-first image

pub returns-clause-of_raw : goal.returns-clause-of_raw
returns-clause-of_raw c = let size : 512 ≤ length c.args.sector.now =
    omega arith in ok_of_raw c.args.sector.now c.args.len c.read_sector.result size c.read_sector.ensures

pub returns-clause-sound : goal.returns-clause-sound
returns-clause-sound c = ok_sound c.args.sector.now c.args.len c.read_sector.result c.read_sector.ensures
