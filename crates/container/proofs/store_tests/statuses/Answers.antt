use Rattle.std.proofs.Common.{◌≡◌, IsTrue, sym, subst}
use Rattle.save_bytes.specs.State.{Shape}
use Rattle.container.proofs.store_tests.statuses.Goals as goal

-- what has the shape of a sound store is sound
later : (one two : Shape) → two ≡ one → IsTrue one.sound → IsTrue two.sound
later one two same = subst (λ (shape : Shape). IsTrue shape.sound) (sym same)

pub status-requires-clause-sound : goal.status-requires-clause-sound
status-requires-clause-sound g c = c.store-store.ensures.sound c.in_ok-container.ensures.whole

pub status-requires-3-clause-sound : goal.status-requires-3-clause-sound
status-requires-3-clause-sound g c =
    later _ _ c.in_ok-status-2.ensures.reads.stays.space.shape
    (later _ _ c.in_ok-status.ensures.reads.stays.space.shape
    (c.store-store.ensures.sound c.in_ok-container.ensures.whole))

pub status-requires-4-clause-sound : goal.status-requires-4-clause-sound
status-requires-4-clause-sound g c =
    later _ _ c.in_ok-status-3.ensures.reads.stays.space.shape
    (later _ _ c.in_ok-status-2.ensures.reads.stays.space.shape
    (later _ _ c.in_ok-status.ensures.reads.stays.space.shape
    (c.store-store.ensures.sound c.in_ok-container.ensures.whole)))

pub status-requires-5-clause-sound : goal.status-requires-5-clause-sound
status-requires-5-clause-sound g c =
    later _ _ c.in_ok-status-4.ensures.reads.stays.space.shape
    (later _ _ c.in_ok-status-3.ensures.reads.stays.space.shape
    (later _ _ c.in_ok-status-2.ensures.reads.stays.space.shape
    (later _ _ c.in_ok-status.ensures.reads.stays.space.shape
    (c.store-store.ensures.sound c.in_ok-container.ensures.whole))))
