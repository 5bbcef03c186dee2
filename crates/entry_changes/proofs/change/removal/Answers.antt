use Rattle.std.proofs.Common.{ℕ, Some, subst}
use Rattle.entry_changes.specs.Lists.{HasWayBytes}
use Rattle.save_bytes.proofs.CallLemmas.{reads_then}
use Rattle.entry_tables.proofs.CauseLemmas.{passed_on, passed_error, plain_stays}
use Rattle.entry_changes.specs.declared.list.EntryList.TheVariants.{Bucket, Children}
use Rattle.entry_tables.specs.declared.word.Word.TheVariants.{Link}
use Rattle.entry_changes.proofs.WalkLemmas.{read_then, bytes_then}
use Rattle.entry_changes.proofs.PlanLemmas.{change_bad_cause, entry_blamed, words_then}
use Rattle.entry_changes.proofs.PlannedLemmas.{named_by, none_before, own_word, zero_has, zero_word, planned}
use Rattle.entry_changes.proofs.PlannedLemmas.{walk_cause}
use Rattle.entry_changes.proofs.PlannedLemmas.{zero_blamed, bucket_listed, directory_listed, bucket_names}
use Rattle.entry_changes.proofs.PlannedLemmas.{directory_names}
use Rattle.entry_changes.proofs.ExactLemmas.{exact_from, word_never, entry_never, list_never, entry_bytes_before}
use Rattle.entry_changes.proofs.ExactLemmas.{ways_before, bucket_ways, directory_ways}
use Rattle.entry_changes.proofs.change.removal.Goals as goal

pub returns-in_err-words-clause-cause : goal.returns-in_err-words-clause-cause
returns-in_err-words-clause-cause g c =
    let s = g.S.Space.state c.args.space.now in
    let t = g.S.Space.state c.read_word.new.space in
    let bad = c.in_err-words.field-0.0 in
    rw (passed_on _ bad c.from_residual-in_err-words.ensures.1)
    (change_bad_cause s c.args.dirs c.args.files _ _ bad
    (λ can may. entry_blamed s t c.args.dirs c.args.files c.requires can c.in_ok-count.ensures.reads.stays c.args.kind
    c.args.entry (Some bad) may.can.named.used (rw c.info_for.ensures at c.in_err-words.ensures.damaged))
    (λ is. c.in_err-words.ensures.plain (plain_stays s.shape t.shape c.in_ok-count.ensures.reads.stays.space.shape is)))

pub returns-in_err-words-clause-reads : goal.returns-in_err-words-clause-reads
returns-in_err-words-clause-reads g c =
    rw (passed_on _ c.in_err-words.field-0.0 c.from_residual-in_err-words.ensures.1)
    (reads_then g.met.S.Space.keeps_join c.in_ok-count.ensures.reads c.in_err-words.ensures.reads)

pub returns-in_err-freed-clause-cause : goal.returns-in_err-freed-clause-cause
returns-in_err-freed-clause-cause g c =
    let s = g.S.Space.state c.args.space.now in
    let t = g.S.Space.state c.read_entry.new.space in
    let read = reads_then g.met.S.Space.keeps_join c.in_ok-count.ensures.reads c.in_ok-words.ensures.reads in
    let bad = c.in_err-freed.field-0.0 in
    rw (passed_on _ bad c.from_residual-in_err-freed.ensures.1)
    (change_bad_cause s c.args.dirs c.args.files _ _ bad
    (λ can may. zero_blamed s t c.args.dirs c.args.files c.requires can read.stays c.args.kind (Some bad)
    c.in_err-freed.ensures.read)
    (λ is. c.in_err-freed.ensures.plain (plain_stays s.shape t.shape read.stays.space.shape is)))

pub returns-in_err-freed-clause-reads : goal.returns-in_err-freed-clause-reads
returns-in_err-freed-clause-reads g c =
    let join = g.met.S.Space.keeps_join in
    rw (passed_on _ c.in_err-freed.field-0.0 c.from_residual-in_err-freed.ensures.1)
    (reads_then join (reads_then join c.in_ok-count.ensures.reads c.in_ok-words.ensures.reads)
    c.in_err-freed.ensures.reads)

pub returns-in_err-word-clause-cause : goal.returns-in_err-word-clause-cause
returns-in_err-word-clause-cause g c =
    let join = g.met.S.Space.keeps_join in
    let s = g.S.Space.state c.args.space.now in
    let t = g.S.Space.state c.read_word-2.new.space in
    let read = reads_then join (reads_then join c.in_ok-count.ensures.reads c.in_ok-words.ensures.reads)
    c.in_ok-freed.ensures.reads in
    let error = c.in_err-word.field-0.0 in
    rw (passed_error _ error c.from_residual-in_err-word.ensures.1)
    (walk_cause s t c.args.dirs c.args.files c.requires read.stays c.args.kind c.args.entry
    (Bucket c.args.kind c.in_ok-words.words.bucket) c.in_ok-count.count error
    (λ can used parent. bucket_listed s c.args.dirs c.args.files c.requires c.args.kind c.args.entry c.in_ok-words.words
    (words_then s (g.S.Space.state c.read_word.new.space) c.args.dirs c.args.files c.requires can
    c.in_ok-count.ensures.reads.stays c.args.kind c.args.entry c.in_ok-words.words used
    (rw c.info_for.ensures at c.in_ok-words.ensures.words)))
    (λ can. c.in_ok-count.ensures.value can tt)
    c.in_err-word.ensures.damaged c.in_err-word.ensures.plain c.in_err-word.ensures.broken
    c.in_err-word.ensures.never_full)

pub returns-in_err-word-clause-reads : goal.returns-in_err-word-clause-reads
returns-in_err-word-clause-reads g c =
    let join = g.met.S.Space.keeps_join in
    rw (passed_error _ c.in_err-word.field-0.0 c.from_residual-in_err-word.ensures.1)
    (reads_then join
    (reads_then join (reads_then join c.in_ok-count.ensures.reads c.in_ok-words.ensures.reads)
    c.in_ok-freed.ensures.reads)
    c.in_err-word.ensures.reads)

pub returns-in-None-clause-plan : goal.returns-in-None-clause-plan
returns-in-None-clause-plan g c = λ can may.
    let join = g.met.S.Space.keeps_join in
    let s = g.S.Space.state c.args.space.now in
    let t = g.S.Space.state c.read_word-2.new.space in
    let read = reads_then join (reads_then join c.in_ok-count.ensures.reads c.in_ok-words.ensures.reads)
    c.in_ok-freed.ensures.reads in
    let words = c.in_ok-words.words in
    let are = words_then s (g.S.Space.state c.read_word.new.space) c.args.dirs c.args.files c.requires can
    c.in_ok-count.ensures.reads.stays c.args.kind c.args.entry words may.can.named.used
    (rw c.info_for.ensures at c.in_ok-words.ensures.words) in
    bucket_names s c.args.dirs c.args.files c.requires c.args.kind c.args.entry may words are
    (none_before s t c.args.dirs c.args.files c.requires can read.stays (Bucket c.args.kind words.bucket) c.args.entry
    c.in_ok-count.count (bucket_listed s c.args.dirs c.args.files c.requires c.args.kind c.args.entry words are)
    (c.in_ok-count.ensures.value can tt) c.in_ok-word.field-0 c.in-None.is c.in_ok-word.ensures.found)

pub returns-in-None-clause-reads : goal.returns-in-None-clause-reads
returns-in-None-clause-reads g c =
    let join = g.met.S.Space.keeps_join in
    reads_then join
    (reads_then join (reads_then join c.in_ok-count.ensures.reads c.in_ok-words.ensures.reads)
    c.in_ok-freed.ensures.reads)
    c.in_ok-word.ensures.reads

pub returns-in_err-word-2-clause-cause : goal.returns-in_err-word-2-clause-cause
returns-in_err-word-2-clause-cause g c =
    let join = g.met.S.Space.keeps_join in
    let s = g.S.Space.state c.args.space.now in
    let t = g.S.Space.state c.word_before.new.space in
    let read = reads_then join
    (reads_then join (reads_then join c.in_ok-count.ensures.reads c.in_ok-words.ensures.reads)
    c.in_ok-freed.ensures.reads)
    c.in_ok-word.ensures.reads in
    let error = c.in_err-word-2.field-0.0 in
    rw (passed_error _ error c.from_residual-in_err-word-2.ensures.1)
    (walk_cause s t c.args.dirs c.args.files c.requires read.stays c.args.kind c.args.entry
    (Children c.args.kind c.in_ok-words.words.parent) c.in_ok-count.count error
    (λ can used parent. directory_listed s c.args.dirs c.args.files c.args.kind c.args.entry c.in_ok-words.words
    (words_then s (g.S.Space.state c.read_word.new.space) c.args.dirs c.args.files c.requires can
    c.in_ok-count.ensures.reads.stays c.args.kind c.args.entry c.in_ok-words.words used
    (rw c.info_for.ensures at c.in_ok-words.ensures.words)) parent)
    (λ can. c.in_ok-count.ensures.value can tt)
    c.in_err-word-2.ensures.damaged c.in_err-word-2.ensures.plain c.in_err-word-2.ensures.broken
    c.in_err-word-2.ensures.never_full)

pub returns-in_err-word-2-clause-reads : goal.returns-in_err-word-2-clause-reads
returns-in_err-word-2-clause-reads g c =
    let join = g.met.S.Space.keeps_join in
    rw (passed_error _ c.in_err-word-2.field-0.0 c.from_residual-in_err-word-2.ensures.1)
    (reads_then join
    (reads_then join
    (reads_then join (reads_then join c.in_ok-count.ensures.reads c.in_ok-words.ensures.reads)
    c.in_ok-freed.ensures.reads)
    c.in_ok-word.ensures.reads)
    c.in_err-word-2.ensures.reads)

pub returns-in-None-2-clause-plan : goal.returns-in-None-2-clause-plan
returns-in-None-2-clause-plan g c = λ can may.
    let join = g.met.S.Space.keeps_join in
    let s = g.S.Space.state c.args.space.now in
    let t = g.S.Space.state c.word_before.new.space in
    let read = reads_then join
    (reads_then join (reads_then join c.in_ok-count.ensures.reads c.in_ok-words.ensures.reads)
    c.in_ok-freed.ensures.reads)
    c.in_ok-word.ensures.reads in
    let words = c.in_ok-words.words in
    let are = words_then s (g.S.Space.state c.read_word.new.space) c.args.dirs c.args.files c.requires can
    c.in_ok-count.ensures.reads.stays c.args.kind c.args.entry words may.can.named.used
    (rw c.info_for.ensures at c.in_ok-words.ensures.words) in
    directory_names s c.args.dirs c.args.files c.args.kind c.args.entry may words are
    (none_before s t c.args.dirs c.args.files c.requires can read.stays (Children c.args.kind words.parent) c.args.entry
    c.in_ok-count.count (directory_listed s c.args.dirs c.args.files c.args.kind c.args.entry words are
    (may.rules.placed c.args.kind c.args.entry may.can.named).parent)
    (c.in_ok-count.ensures.value can tt) c.in_ok-word-2.field-0 c.in-None-2.is c.in_ok-word-2.ensures.found)

pub returns-in-None-2-clause-reads : goal.returns-in-None-2-clause-reads
returns-in-None-2-clause-reads g c =
    let join = g.met.S.Space.keeps_join in
    reads_then join
    (reads_then join
    (reads_then join (reads_then join c.in_ok-count.ensures.reads c.in_ok-words.ensures.reads)
    c.in_ok-freed.ensures.reads)
    c.in_ok-word.ensures.reads)
    c.in_ok-word-2.ensures.reads

pub returns-clause-plan : goal.returns-clause-plan
returns-clause-plan g c = λ can may.
    let join = g.met.S.Space.keeps_join in
    let s = g.S.Space.state c.args.space.now in
    let words_read = reads_then join c.in_ok-count.ensures.reads c.in_ok-words.ensures.reads in
    let freed_read = reads_then join words_read c.in_ok-freed.ensures.reads in
    let bucket_read = reads_then join freed_read c.in_ok-word.ensures.reads in
    let words = c.in_ok-words.words in
    let counted = c.in_ok-count.ensures.value can tt in
    let are = words_then s (g.S.Space.state c.read_word.new.space) c.args.dirs c.args.files c.requires can
    c.in_ok-count.ensures.reads.stays c.args.kind c.args.entry words may.can.named.used
    (rw c.info_for.ensures at c.in_ok-words.ensures.words) in
    planned s c.args.dirs c.args.files can c.args.kind c.args.entry words are c.in-Some.word c.in-Some-2.word
    c.in_ok-freed.freed
    (read_then s (g.S.Space.state c.read_entry.new.space) c.args.dirs c.args.files c.requires can words_read.stays
    (Link c.args.kind 0) (zero_has s c.args.dirs c.args.files can c.args.kind) c.in_ok-freed.freed
    c.in_ok-freed.ensures.value)
    (named_by s (g.S.Space.state c.read_word-2.new.space) c.args.dirs c.args.files c.requires can freed_read.stays
    may.rules (Bucket c.args.kind words.bucket) c.args.entry c.in_ok-count.count
    (bucket_listed s c.args.dirs c.args.files c.requires c.args.kind c.args.entry words are) counted
    c.in_ok-word.field-0 c.in-Some.word c.in-Some.is c.in_ok-word.ensures.found c.in_ok-word.ensures.bytes)
    (named_by s (g.S.Space.state c.word_before.new.space) c.args.dirs c.args.files c.requires can bucket_read.stays
    may.rules (Children c.args.kind words.parent) c.args.entry c.in_ok-count.count
    (directory_listed s c.args.dirs c.args.files c.args.kind c.args.entry words are
    (may.rules.placed c.args.kind c.args.entry may.can.named).parent) counted
    c.in_ok-word-2.field-0 c.in-Some-2.word c.in-Some-2.is c.in_ok-word-2.ensures.found c.in_ok-word-2.ensures.bytes)
    (own_word s (g.S.Space.state c.read_word.new.space) c.args.dirs c.args.files c.requires can
    c.in_ok-count.ensures.reads.stays c.args.kind c.args.entry may.can.named.used
    (rw c.info_for.ensures at c.in_ok-words.ensures.bytes))
    (zero_word s (g.S.Space.state c.read_entry.new.space) c.args.dirs c.args.files c.requires can words_read.stays
    c.args.kind c.in_ok-freed.ensures.read)
    c.edits_of.result c.edits_of.ensures

pub returns-clause-reads : goal.returns-clause-reads
returns-clause-reads g c =
    let join = g.met.S.Space.keeps_join in
    reads_then join
    (reads_then join
    (reads_then join (reads_then join c.in_ok-count.ensures.reads c.in_ok-words.ensures.reads)
    c.in_ok-freed.ensures.reads)
    c.in_ok-word.ensures.reads)
    c.in_ok-word-2.ensures.reads

-- a removal whose bytes are there
pub returns-in_err-words-clause-exact : goal.returns-in_err-words-clause-exact
returns-in_err-words-clause-exact g c = λ can may bytes.
    let s = g.S.Space.state c.args.space.now in
    let t = g.S.Space.state c.read_word.new.space in
    let bad = c.in_err-words.field-0.0 in
    exact_from s c.args.dirs c.args.files c.args.kind c.args.entry _ (returns-in_err-words-clause-cause g c) can may
    (rw (passed_on _ bad c.from_residual-in_err-words.ensures.1)
    (entry_never s t c.args.dirs c.args.files c.requires can c.in_ok-count.ensures.reads.stays c.args.kind c.args.entry
    (Some bad) may.can.named.used bytes.entry (rw c.info_for.ensures at c.in_err-words.ensures.read)))

pub returns-in_err-freed-clause-exact : goal.returns-in_err-freed-clause-exact
returns-in_err-freed-clause-exact g c = λ can may bytes.
    let s = g.S.Space.state c.args.space.now in
    let t = g.S.Space.state c.read_entry.new.space in
    let read = reads_then g.met.S.Space.keeps_join c.in_ok-count.ensures.reads c.in_ok-words.ensures.reads in
    let bad = c.in_err-freed.field-0.0 in
    exact_from s c.args.dirs c.args.files c.args.kind c.args.entry _ (returns-in_err-freed-clause-cause g c) can may
    (rw (passed_on _ bad c.from_residual-in_err-freed.ensures.1)
    (word_never s t c.args.dirs c.args.files c.requires can read.stays (Link c.args.kind 0) (Some bad)
    (zero_has s c.args.dirs c.args.files can c.args.kind) bytes.zero c.in_err-freed.ensures.read))

pub returns-in_err-word-clause-exact : goal.returns-in_err-word-clause-exact
returns-in_err-word-clause-exact g c = λ can may bytes.
    let join = g.met.S.Space.keeps_join in
    let s = g.S.Space.state c.args.space.now in
    let t = g.S.Space.state c.read_word-2.new.space in
    let read = reads_then join (reads_then join c.in_ok-count.ensures.reads c.in_ok-words.ensures.reads)
    c.in_ok-freed.ensures.reads in
    let error = c.in_err-word.field-0.0 in
    let words = c.in_ok-words.words in
    let are = words_then s (g.S.Space.state c.read_word.new.space) c.args.dirs c.args.files c.requires can
    c.in_ok-count.ensures.reads.stays c.args.kind c.args.entry words may.can.named.used
    (rw c.info_for.ensures at c.in_ok-words.ensures.words) in
    exact_from s c.args.dirs c.args.files c.args.kind c.args.entry _ (returns-in_err-word-clause-cause g c) can may
    (rw (passed_error _ error c.from_residual-in_err-word.ensures.1)
    (list_never s t c.args.dirs c.args.files c.requires can read.stays (Bucket c.args.kind words.bucket) c.args.entry
    c.in_ok-count.count _ (bucket_listed s c.args.dirs c.args.files c.requires c.args.kind c.args.entry words are)
    (c.in_ok-count.ensures.value can tt)
    (bucket_ways s.cells c.args.dirs c.args.files c.args.kind c.args.entry words are bytes.in_bucket)
    c.in_err-word.ensures.damaged))

pub returns-in_err-word-2-clause-exact : goal.returns-in_err-word-2-clause-exact
returns-in_err-word-2-clause-exact g c = λ can may bytes.
    let join = g.met.S.Space.keeps_join in
    let s = g.S.Space.state c.args.space.now in
    let t = g.S.Space.state c.word_before.new.space in
    let read = reads_then join
    (reads_then join (reads_then join c.in_ok-count.ensures.reads c.in_ok-words.ensures.reads)
    c.in_ok-freed.ensures.reads)
    c.in_ok-word.ensures.reads in
    let error = c.in_err-word-2.field-0.0 in
    let words = c.in_ok-words.words in
    let are = words_then s (g.S.Space.state c.read_word.new.space) c.args.dirs c.args.files c.requires can
    c.in_ok-count.ensures.reads.stays c.args.kind c.args.entry words may.can.named.used
    (rw c.info_for.ensures at c.in_ok-words.ensures.words) in
    exact_from s c.args.dirs c.args.files c.args.kind c.args.entry _ (returns-in_err-word-2-clause-cause g c) can may
    (rw (passed_error _ error c.from_residual-in_err-word-2.ensures.1)
    (list_never s t c.args.dirs c.args.files c.requires can read.stays (Children c.args.kind words.parent) c.args.entry
    c.in_ok-count.count _ (directory_listed s c.args.dirs c.args.files c.args.kind c.args.entry words are
    (may.rules.placed c.args.kind c.args.entry may.can.named).parent)
    (c.in_ok-count.ensures.value can tt)
    (directory_ways s.cells c.args.dirs c.args.files c.args.kind c.args.entry words are bytes.in_directory)
    c.in_err-word-2.ensures.damaged))

-- and what one that was planned has read
pub returns-in-None-clause-bytes : goal.returns-in-None-clause-bytes
returns-in-None-clause-bytes g c = λ can may. absurd (returns-in-None-clause-plan g c can may)

pub returns-in-None-2-clause-bytes : goal.returns-in-None-2-clause-bytes
returns-in-None-2-clause-bytes g c = λ can may. absurd (returns-in-None-2-clause-plan g c can may)

pub returns-clause-bytes : goal.returns-clause-bytes
returns-clause-bytes g c = λ can may.
    let join = g.met.S.Space.keeps_join in
    let s = g.S.Space.state c.args.space.now in
    let words_read = reads_then join c.in_ok-count.ensures.reads c.in_ok-words.ensures.reads in
    let freed_read = reads_then join words_read c.in_ok-freed.ensures.reads in
    let bucket_read = reads_then join freed_read c.in_ok-word.ensures.reads in
    let words = c.in_ok-words.words in
    let counted = c.in_ok-count.ensures.value can tt in
    let are = words_then s (g.S.Space.state c.read_word.new.space) c.args.dirs c.args.files c.requires can
    c.in_ok-count.ensures.reads.stays c.args.kind c.args.entry words may.can.named.used
    (rw c.info_for.ensures at c.in_ok-words.ensures.words) in
    record {
      entry = entry_bytes_before s (g.S.Space.state c.read_word.new.space) c.args.dirs c.args.files c.requires can
          c.in_ok-count.ensures.reads.stays c.args.kind c.args.entry may.can.named.used
          (rw c.info_for.ensures at c.in_ok-words.ensures.bytes);
      zero = bytes_then s (g.S.Space.state c.read_entry.new.space) c.args.dirs c.args.files c.requires can
          words_read.stays (Link c.args.kind 0) (zero_has s c.args.dirs c.args.files can c.args.kind)
          c.in_ok-freed.ensures.read;
      in_bucket = subst (λ (b : ℕ). HasWayBytes s.cells c.args.dirs c.args.files (Bucket c.args.kind b) c.args.entry)
          are.bucket
          (ways_before s (g.S.Space.state c.read_word-2.new.space) c.args.dirs c.args.files c.requires can
          freed_read.stays (Bucket c.args.kind words.bucket) c.args.entry c.in_ok-count.count
          (bucket_listed s c.args.dirs c.args.files c.requires c.args.kind c.args.entry words are) counted
          c.in_ok-word.ensures.walked);
      in_directory = subst
          (λ (d : ℕ). HasWayBytes s.cells c.args.dirs c.args.files (Children c.args.kind d) c.args.entry)
          are.parent
          (ways_before s (g.S.Space.state c.word_before.new.space) c.args.dirs c.args.files c.requires can
          bucket_read.stays (Children c.args.kind words.parent) c.args.entry c.in_ok-count.count
          (directory_listed s c.args.dirs c.args.files c.args.kind c.args.entry words are
          (may.rules.placed c.args.kind c.args.entry may.can.named).parent) counted
          c.in_ok-word-2.ensures.walked);
    }
