use Rattle.std.proofs.Common.{Some, refl}
use Rattle.container.specs.declared.open.Container.{Container}
use Rattle.container.specs.Aborts.{DropsChanges}
use Rattle.container.proofs.DropLemmas.{second_drops, none_drops, drops_whole, drops_opened, drops_told, drops_cells}
use Rattle.container.proofs.open.Container.abort.Goals as goal

-- where there are two parts
module _ (c : goal.After-drop_changes-in-Some) where
  abbrev both : Container
  both = record c.args.self.now {
    parts = record { first = c.drop_changes.new.self; second = Some c.drop_changes-in-Some.new.self };
  }

  both_drop : DropsChanges c.args.self.now both
  both_drop =
      let first = c.drop_changes.ensures in
      let second = c.drop_changes-in-Some.ensures in
      record {
        header = refl;
        image = refl;
        table = refl;
        first = record {
          ends = first.ends;
          descriptor = first.descriptor;
          turned = first.turned;
          unchanged = first.unchanged;
          tells = first.tells;
        };
        second = second_drops c.args.self.now.parts.second c.in-Some.second c.drop_changes-in-Some.new.self c.in-Some.is
            (record {
              ends = second.ends;
              descriptor = second.descriptor;
              turned = second.turned;
              unchanged = second.unchanged;
              tells = second.tells;
            });
      }

-- where there is one
module _ (c : goal.In_default) where
  abbrev lone : Container
  lone = record c.args.self.now { parts = record c.args.self.now.parts { first = c.drop_changes.new.self } }

  lone_drops : DropsChanges c.args.self.now lone
  lone_drops =
      let first = c.drop_changes.ensures in
      record {
        header = refl;
        image = refl;
        table = refl;
        first = record {
          ends = first.ends;
          descriptor = first.descriptor;
          turned = first.turned;
          unchanged = first.unchanged;
          tells = first.tells;
        };
        second = none_drops c.args.self.now.parts.second c.in_default.not-Some;
      }

pub returns-in-Some-clause-whole : goal.returns-in-Some-clause-whole
returns-in-Some-clause-whole c = drops_whole c.args.self.now (both c) (both_drop c)

pub returns-in-Some-clause-opened : goal.returns-in-Some-clause-opened
returns-in-Some-clause-opened c = drops_opened c.args.self.now (both c) (both_drop c)

pub returns-in-Some-clause-told : goal.returns-in-Some-clause-told
returns-in-Some-clause-told c = drops_told c.args.self.now (both c) (both_drop c)

pub returns-in-Some-clause-cells : goal.returns-in-Some-clause-cells
returns-in-Some-clause-cells c = drops_cells c.args.self.now (both c) (both_drop c)

pub returns-in_default-clause-whole : goal.returns-in_default-clause-whole
returns-in_default-clause-whole c = drops_whole c.args.self.now (lone c) (lone_drops c)

pub returns-in_default-clause-opened : goal.returns-in_default-clause-opened
returns-in_default-clause-opened c = drops_opened c.args.self.now (lone c) (lone_drops c)

pub returns-in_default-clause-told : goal.returns-in_default-clause-told
returns-in_default-clause-told c = drops_told c.args.self.now (lone c) (lone_drops c)

pub returns-in_default-clause-cells : goal.returns-in_default-clause-cells
returns-in_default-clause-cells c = drops_cells c.args.self.now (lone c) (lone_drops c)
