use Rattle.std.proofs.Common.{◌≡◌, sym, ◌∙◌, length, arith}
use Rattle.std.proofs.lemmas.Bool.{false≢true}
use Rattle.std.proofs.lemmas.List.{places}
use Rattle.entry_tables.specs.Kinds.{entry_size}
use Rattle.name_buckets.specs.Looks.{Matches}
use Rattle.entry_tables.specs.Tables.{table_in}
use Rattle.entry_tables.proofs.EntryLemmas.{link_read}
use Rattle.name_buckets.proofs.LookLemmas.{matches_read, key_read}
use Rattle.name_buckets.proofs.find.look_at.Goals.{else-not-is_root-via-then-not-is_root+else-has_key, else-not-is_root-via-else-not-is_root}
use Rattle.name_buckets.proofs.find.look_at.Goals as goal

pub returns-then-has_key-clause-look : goal.returns-then-has_key-clause-look
returns-then-has_key-clause-look g c = λ told has.
    let long : length c.entry_bytes.new.out ≡ entry_size c.args.kind = grind (arith, places) in
    matches_read (g.S.Space.state c.args.space.now).cells c.args.kind c.args.info c.args.entry c.entry_bytes.new.out
    long (c.in_ok-entry_bytes.ensures.bytes told has.below) has c.args.parent c.args.name.now.0
    (λ root. false≢true (sym c.if-not-is_root.true ∙ c.is_root.ensures.1 root))
    (c.has_key.ensures.0 c.if-has_key.true)

pub returns-clause-look : goal.returns-clause-look
returns-clause-look g c = λ told has.
    let long : length c.entry_bytes.new.out ≡ entry_size c.args.kind = grind (arith, places) in
    let cells = (g.S.Space.state c.args.space.now).cells in
    let are = c.in_ok-entry_bytes.ensures.bytes told has.below in
    let missed : ¬ Matches c.args.kind (table_in cells c.args.kind c.args.info) c.args.parent c.args.name.now.0 c.args.entry = λ matches.
    (let key = key_read cells c.args.kind c.args.info c.args.entry c.entry_bytes.new.out long are has c.args.parent
    c.args.name.now.0 matches in
    elim c.else-not-is_root.branch [
      | else-not-is_root-via-then-not-is_root+else-has_key w ↦ false≢true (sym w.if-has_key.false ∙ w.has_key.ensures.1 key)
      | else-not-is_root-via-else-not-is_root w ↦ matches.other (c.is_root.ensures.0 w.if-not-is_root.false)
    ])
    in (
      missed,
      c.u32_at.ensures ∙ rw c.link_offset.ensures (link_read cells c.args.kind c.args.info c.args.entry
          c.entry_bytes.new.out long are has.below),
    )
