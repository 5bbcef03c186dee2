-- A view stays where its base does.
use Rattle.std.proofs.Common.{◌≡◌, ℕ, Option, refl, ap}
use Rattle.save_bytes.specs.declared.space.Bad.{Bad}
use Rattle.save_bytes.specs.State.{State, Shape}
use Rattle.save_bytes.specs.Stays.{Stays}
use Rattle.save_bytes.specs.Spots.{Spot, Mark, Frame}
use Rattle.save_bytes.specs.Reads.{Reads}
use Rattle.save_bytes.proofs.SpaceLemmas.{UnlessDisk-map, UnlessDisk-both, UnlessDisk-always}
use Rattle.difi.specs.declared.descriptor.Difi.{Difi}
use Rattle.dpfs_tree.specs.declared.state.DpfsState.{DpfsState}
use Rattle.dpfs_tree.specs.declared.view.DpfsView.{DpfsView}
use Rattle.dpfs_tree.specs.View.{contents_state, HasContents}
use Rattle.dpfs_tree.specs.Held.{shown_contents, SameContents, SameState, ContentsKeep, contents_land}
use Rattle.dpfs_tree.specs.SameLaws.{view_cells}
use Rattle.dpfs_tree.specs.ViewLaws.{contents_lands}

-- what stays in the base stays in the view
pub view_stays : (base new : State) (part_at : ℕ) (difi : Difi) (state : DpfsState) (refusal : Option Bad)
    → HasContents base.shape part_at difi state.selector → Stays base new refusal
    → Stays (contents_state base part_at difi state) (contents_state new part_at difi state) refusal
view_stays base new part_at difi state refusal tree stays = record {
  space = record {
    shape = ap (λ (shape : Shape). (contents_state (record base { shape = shape }) part_at difi state).shape)
        stays.space.shape;
    faults = stays.space.faults;
    cause = stays.space.cause;
    told = stays.space.told;
    twins = λ told. UnlessDisk-always refusal (record { bottom = λ x h. refl; is_fixed = λ x h. refl });
  };
  cells = λ told. UnlessDisk-map refusal (view_cells base new part_at difi state tree) (stays.cells told);
}

pub same_state : (spot : Spot) (old new : DpfsState) → new ≡ old → SameState spot old new
same_state (Mark part level block) old new same = λ here. rw same refl
same_state Frame old new same = same
same_state spot old new same = tt

module _ {S : Type 0} (states : S → State) (keeps : Spot → S → S → Type 0) (lands : S → ℕ → Spot → Type 0)
    (s t : DpfsView S)
    (refusal : Option Bad) (same : SameContents s t) (state_now : t.state.now ≡ s.state.now)
    (tree : HasContents (states s.base.now).shape s.part_at s.difi.now s.state.now.selector) where
  -- a call that reads the base reads the view
  pub contents_read : Reads states keeps lands s.base.now t.base.now refusal
      → Reads (shown_contents states) (ContentsKeep keeps) (contents_land states lands) s t refusal
  contents_read reads = record {
    stays = rw (same.same_place, same.same_difi, state_now)
        (view_stays (states s.base.now) (states t.base.now) s.part_at s.difi.now s.state.now refusal tree reads.stays);
    frame = (same, state_now, reads.frame);
    sectors = λ number. (same, tt, reads.sectors number);
    spots = λ told spot. (same, same_state spot s.state.now t.state.now state_now, reads.spots told spot);
    reach = λ told. UnlessDisk-both refusal _ _ _ (contents_lands states s t same lands tree) (reads.stays.cells told)
        (reads.reach told);
  }
