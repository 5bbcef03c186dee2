use Rattle.std.proofs.Common.{◌≡◌, length, refl, ap, ◌∙◌, List, ℕ, rules}
use Rattle.byteorder.specs.Endian.{little_bytes}
use Rattle.save_bytes.specs.Fields.{with_bytes}
use Rattle.entry_additions.proofs.ImageLemmas.{dir_written}
use Rattle.entry_additions.proofs.image.dir_bytes.Goals as goal

pub returns : goal.returns
returns c =
    let name : length c.args.new.name.0 ≡ 16 = search rules in
    c.set_u32-3.ensures
    ∙ ap (λ (b : List ℕ). with_bytes b 0x24 (little_bytes 4 c.args.link)) (c.set_u32-2.ensures
    ∙ ap (λ (b : List ℕ). with_bytes b 0x14 (little_bytes 4 c.args.sibling)) (c.set_name.ensures
    ∙ ap (λ (b : List ℕ). with_bytes b 4 c.args.new.name.0) c.set_u32.ensures))
    ∙ dir_written (little_bytes 4 c.args.new.parent) c.args.new.name.0 (little_bytes 4 c.args.sibling)
    (little_bytes 4 c.args.link) refl name refl refl
