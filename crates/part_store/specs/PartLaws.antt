-- What a partition that can be viewed has.
use Rattle.std.proofs.Common.{◌≡◌, ℕ, ◌+◌, ◌^◌, ◌<◌, true, not, List, length, drop, refl, ap, arith}
use Rattle.std.proofs.lemmas.Bool.{not-true, and_parts, and_from, le-leb, leb-true}
use Rattle.std.proofs.lemmas.List.{length-take-le, length-drop}
use Rattle.save_bytes.specs.State.{Shape, State}
use Rattle.save_bytes.proofs.ExtentLemmas.{apart, overlap-apart}
use Rattle.difi.specs.Sound.{difi_part}
use Rattle.dpfs_tree.specs.View.{HasContents}
use Rattle.dpfs_tree.specs.ViewLaws.{can_view_contents-true as contents_pass}
use Rattle.dpfs_tree.specs.ViewLaws.{true-can_view_contents as contents_hold, tree_of as contents_of_base}
use Rattle.ivfc_tree.specs.View.{CanViewHashes, HasTree as HasHashes}
use Rattle.ivfc_tree.specs.ViewLaws.{tree_of as hashes_of, is_made_for-true, true-is_made_for}
use Rattle.part_store.specs.declared.part.Part.{Part}
use Rattle.part_store.specs.Parts.{master_of, contents_of, CanViewPart, can_view_part}

-- a part that can be viewed has its contents in the base
pub contents_there : (base : State) (part : Part) (n : ℕ) → base.shape.size < 2 ^ 64 → CanViewPart base.shape part n
    → HasContents base.shape part.at part.difi part.dpfs.selector
contents_there base part n small view = contents_of_base base.shape part.at part.difi part.dpfs small view.contents

-- and its hash tree in the contents
pub hash_view : (base : State) (part : Part) (table : List ℕ) → CanViewPart base.shape part (length table)
    → CanViewHashes (contents_of base part).shape part.difi (length (master_of table part.difi)) part.ivfc
hash_view base part table view =
    let difi = part.difi in
    let from = difi.place + difi.master.at in
    let levels = view.contents.partition.levels in
    record {
      sound = contents_pass base.shape part.at difi part.dpfs view.contents;
      plain = view.contents.plain;
      single = refl;
      first = refl;
      base_len = refl;
      whole_master = length-take-le difi.master.size (drop from table)
          (omega (arith, length-drop from table, view.master));
      block_sizes = levels.block_sizes;
      hash_levels = levels.hash_levels;
      made = view.made;
    }

pub hashes_there : (base : State) (part : Part) (table : List ℕ) → base.shape.size < 2 ^ 64
    → CanViewPart base.shape part (length table)
    → HasHashes (contents_of base part).shape part.difi (length (master_of table part.difi))
hashes_there base part table small view =
    let contents = contents_there base part (length table) small view in
    hashes_of (contents_of base part).shape part.difi (length (master_of table part.difi)) part.ivfc
    (omega (arith, contents.view_fits, contents.small)) (hash_view base part table view)

-- the test passes where a view can be made
pub can_view_part-true : (base : Shape) (part : Part) (n : ℕ) → CanViewPart base part n
    → can_view_part base part n ≡ true
unfolding can_view_part
can_view_part-true base part n view =
    and_from _ _ (contents_pass base part.at part.difi part.dpfs view.contents)
    (and_from _ _ (le-leb _ _ view.difi)
    (and_from _ _ (le-leb _ _ view.master)
    (and_from _ _ (ap not (overlap-apart difi_part part.difi.master view.apart))
    (is_made_for-true part.difi part.ivfc view.made))))

-- and only there
pub true-can_view_part : (base : Shape) (part : Part) (n : ℕ) → can_view_part base part n ≡ true
    → CanViewPart base part n
unfolding can_view_part
true-can_view_part base part n test =
    let contents = and_parts _ _ test in
    let difi = and_parts _ _ contents.1 in
    let master = and_parts _ _ difi.1 in
    let apart_from_it = and_parts _ _ master.1 in
    record {
      contents = contents_hold base part.at part.difi part.dpfs contents.0;
      difi = leb-true _ _ difi.0;
      master = leb-true _ _ master.0;
      apart = apart difi_part part.difi.master (not-true _ apart_from_it.0);
      made = true-is_made_for part.difi part.ivfc apart_from_it.1;
    }
