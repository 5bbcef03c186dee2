-- The way from a directory to the root, by parents, and what it has to do with paths.
use Rattle.std.proofs.Common.{◌≡◌, ◌≢◌, ℕ, ◌+◌, ◌≤◌, List, [], ◌∷◌, ◌++◌, length, map, reverse}
use Rattle.std.proofs.Common.{inl, inr, refl, sym, ap, subst, arith, length-append}
use Rattle.std.specs.List.{Contains}
use Rattle.std.proofs.lemmas.List.{length-reverse, length-map}
use Rattle.std.proofs.lemmas.List.Elements.{Contains-push_cases}
use Rattle.entry_tables.specs.declared.table.EntryKind.{EntryKind}
use Rattle.entry_tables.specs.declared.table.EntryKind.TheVariants.{Dir}
use Rattle.entry_tables.specs.Tables.{Table, Tables}
use Rattle.entry_tables.specs.Links.{LeadsTo}
use Rattle.entry_tables.specs.Used.{named_entries}
use Rattle.entry_tables.specs.Rules.{IsPlacedEntry}
use Rattle.entry_tables.specs.Fails.{IsMisplaced}
use Rattle.entry_tables.proofs.LinkLemmas.{LeadsTo-push, front_within}
use Rattle.entry_audit.specs.Placed.{IsNamedWell, IsShallow}

-- so many directories were passed from one on, up to one, and the root was none of them
pub record HasRisen (dirs : Table) (dir passed at : ℕ) : Type 0 where
  pub front : List ℕ
  pub leads : LeadsTo dirs.parent dir front at
  pub below_root : ¬ Contains front 1
  pub many : length front ≡ passed

pub HasRisen-none : (dirs : Table) (dir : ℕ) → HasRisen dirs dir 0 dir
HasRisen-none dirs dir =
    record { front = []; leads = refl; below_root = λ within. (omega (arith, within.1)); many = refl }

module _ {dirs : Table} {dir passed at : ℕ} (h : HasRisen dirs dir passed at) where
  pub HasRisen-more : (next : ℕ) → at ≢ 1 → at ≢ 0 → next ≡ dirs.parent at → HasRisen dirs dir (passed + 1) next
  HasRisen-more next other some is = record {
    front = h.front ++ at ∷ [];
    leads = subst (λ (n : ℕ). LeadsTo dirs.parent dir (h.front ++ at ∷ []) n) (sym is)
        (LeadsTo-push dirs.parent dir h.front at h.leads some);
    below_root = λ within. elim (Contains-push_cases h.front at 1 within) [
      | inl before ↦ h.below_root before
      | inr here ↦ other here
    ];
    many = omega (arith, length-append h.front (at ∷ []), h.many);
  }

  pub risen_shallow : at ≡ 1 → passed ≤ 63 → IsShallow dirs dir
  risen_shallow root few = record {
    rising = h.front;
    leads = subst (λ (n : ℕ). LeadsTo dirs.parent dir h.front n) root h.leads;
    below_root = h.below_root;
    few = omega (arith, few, h.many);
  }

  pub risen_deep : 64 ≤ passed → ¬ IsShallow dirs dir
  risen_deep many shallow =
      h.below_root (front_within dirs.parent dir shallow.rising h.front 1 at shallow.leads h.leads
      (omega (arith, shallow.few, h.many, many)))

-- an entry is placed where it is named well and its parent is not deep, and only there
module _ (t : Tables) (kind : EntryKind) (e : ℕ) where
  pub placed_from : IsNamedWell t kind e → IsShallow (t.table Dir) ((t.table kind).parent e) → IsPlacedEntry t kind e
  placed_from well shallow =
      let above = reverse (map (t.table Dir).name shallow.rising) in
      let name = (t.table kind).name e in
      record {
        parent = well.parent;
        named = well.named;
        path = (
          above ++ name ∷ [],
          record {
            parents_path = above;
            parent = record {
              rising = shallow.rising;
              leads = shallow.leads;
              below_root = shallow.below_root;
              names = refl;
            };
            names = refl;
          },
          omega (
            arith,
            length-append above (name ∷ []),
            length-reverse (map (t.table Dir).name shallow.rising),
            length-map shallow.rising (t.table Dir).name,
            shallow.few,
          ),
        );
      }

  pub well_from : IsPlacedEntry t kind e → IsNamedWell t kind e
  well_from placed = record { parent = placed.parent; named = placed.named }

  pub shallow_from : IsPlacedEntry t kind e → IsShallow (t.table Dir) ((t.table kind).parent e)
  shallow_from placed =
      let path = placed.path.1 in
      let above = path.parent in
      record {
        rising = above.rising;
        leads = above.leads;
        below_root = above.below_root;
        few = omega (
          arith,
          placed.path.2,
          ap length path.names,
          length-append path.parents_path ((t.table kind).name e ∷ []),
          ap length above.names,
          length-reverse (map (t.table Dir).name above.rising),
          length-map above.rising (t.table Dir).name,
        );
      }

  pub misplaced_unnamed : named_entries kind (t.table kind) e → ¬ IsNamedWell t kind e → IsMisplaced t kind e
  misplaced_unnamed entry wrong = record { entry = entry; wrong = λ placed. wrong (well_from placed) }

  pub misplaced_deep : named_entries kind (t.table kind) e → ¬ IsShallow (t.table Dir) ((t.table kind).parent e)
      → IsMisplaced t kind e
  misplaced_deep entry wrong = record { entry = entry; wrong = λ placed. wrong (shallow_from placed) }
