use Rattle.std.proofs.Common.{◌≡◌, take, drop, ◌∙◌, length, None, arith}
use Rattle.std.proofs.lemmas.List.{places}
use Rattle.entry_tables.specs.Kinds.{entry_size}
use Rattle.entry_tables.specs.Tables.{table_in, entry_place}
use Rattle.entry_tables.proofs.EntryLemmas.{parent_read, name_read, sibling_read, link_read}
use Rattle.entry_changes.proofs.WordLemmas.{bytes_of_entry, bucket_read, read_at}
use Rattle.entry_changes.proofs.words.read_entry.Goals as goal

pub returns-clause-words : goal.returns-clause-words
returns-clause-words g c = λ told has.
    let long : length c.entry_bytes.new.out ≡ entry_size c.args.kind = grind (arith, places) in
    let cells = (g.S.Space.state c.args.space.now).cells in
    let are = c.in_ok-entry_bytes.ensures.bytes told has.below in
    let name : c.copy_from_slice.new.self ≡ take 16 (drop 4 c.entry_bytes.new.out) = c.copy_from_slice.ensures.after in
    let parent_is = c.u32_at-parent.ensures ∙ parent_read cells c.args.kind c.args.info c.args.entry
    c.entry_bytes.new.out
    long are has in
    record {
      parent = parent_is;
      bucket = bucket_read (table_in cells c.args.kind c.args.info) c.args.entry c.u32_at-parent.result
          c.copy_from_slice.new.self c.bucket.result parent_is
          (name ∙ name_read cells c.args.kind c.args.info c.args.entry c.entry_bytes.new.out long are has)
          c.bucket.ensures.number;
      sibling = c.u32_at.ensures ∙ sibling_read cells c.args.kind c.args.info c.args.entry c.entry_bytes.new.out long
          are has;
      link = c.u32_at-2.ensures ∙ rw c.link_offset.ensures (link_read cells c.args.kind c.args.info c.args.entry
          c.entry_bytes.new.out long are has.below);
    }

pub returns-clause-bytes : goal.returns-clause-bytes
returns-clause-bytes g c = λ told has.
    let long : length c.entry_bytes.new.out ≡ entry_size c.args.kind = grind (arith, places) in
    bytes_of_entry (g.S.Space.state c.args.space.now).cells (entry_place c.args.kind c.args.info c.args.entry)
    (entry_size c.args.kind) c.entry_bytes.new.out long (c.in_ok-entry_bytes.ensures.bytes told has.below)

pub returns-clause-read : goal.returns-clause-read
returns-clause-read g c = λ fits.
    read_at (g.S.Space.state c.args.space.now) _ _ _ _ None (c.in_ok-entry_bytes.ensures.read fits) (omega arith)
    (grind (arith, places))
