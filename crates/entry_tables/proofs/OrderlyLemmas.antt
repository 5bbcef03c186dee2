-- The rules hold after a change.
use Rattle.std.proofs.Common.{ℕ}
use Rattle.entry_tables.specs.Tables.{Tables}
use Rattle.entry_tables.specs.Rules.{IsOrderly}
use Rattle.entry_tables.specs.Words.{with_fields}

-- of a file's fields no rule speaks
pub fields_orderly : (t : Tables) (e start wide : ℕ) → IsOrderly t → IsOrderly (with_fields t e start wide)
fields_orderly t e start wide rules = record {
  freed = rules.freed;
  placed = λ kind f named.
      (let was = rules.placed kind f named in record { parent = was.parent; named = was.named; path = was.path });
  listed = λ kind dir used.
      (let was = rules.listed kind dir used in (
        was.0,
        record {
          leads = was.1.leads;
          children = λ f within. (let child = was.1.children f within in
              record { entry = child.entry; parent = child.parent });
          all = λ f child. was.1.all f (record { entry = child.entry; parent = child.parent });
        },
      ));
  names_apart = rules.names_apart;
  buckets = rules.buckets;
}
