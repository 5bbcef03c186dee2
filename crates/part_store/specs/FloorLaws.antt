-- The laws of a floor, of a view of a partition: its cells and blocks are those of the view through its hash tree.
use Rattle.std.specs.Prelude.{IsTrue, refl}
use Rattle.save_bytes.specs.State.{State}
use Rattle.save_bytes.specs.Blocks.{IsGround, HasBlocks, HasAlikeBlocks}
use Rattle.ivfc_tree.specs.FloorLaws.{view_blocks, view_alike}
use Rattle.part_store.specs.declared.view.PartView.{PartView}
use Rattle.part_store.specs.Parts.{master_of, contents_of}
use Rattle.part_store.specs.Held.{shown}

module _ {S : Type 0} (states : S → State) (s : PartView S) where
  pub shown_ground : IsGround (shown states s)
  shown_ground = record { first = refl; single = refl; bottom = λ x. refl }

  pub shown_blocks : IsTrue (shown states s).shape.sound → HasBlocks (shown states s).shape
  shown_blocks sound =
      let part = s.part.now in
      let below = view_blocks (contents_of (states s.base.now) part) part.number (master_of s.table.now part.difi)
      part.difi part.ivfc in
      record {
        starts = below.starts;
        ends = below.ends;
        inside = below.inside;
        same_start = below.same_start;
        same_len = below.same_len;
      }

  pub shown_alike : IsTrue (shown states s).told → HasAlikeBlocks (shown states s)
  shown_alike told =
      let part = s.part.now in
      view_alike (contents_of (states s.base.now) part) part.number (master_of s.table.now part.difi) part.difi
      part.ivfc
