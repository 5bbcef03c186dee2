-- Which words ask for the signer's tag.
use Rattle.std.specs.Prelude.{Option, Some, None, IsTrue}
use Rattle.save_top.specs.declared.form.Order.{Order}

abbrev pub AsksForTag : Option Order → Type 0
AsksForTag None = ⊥
AsksForTag (Some order) = IsTrue order.sealed
