-- The command that a line stands for.
use Rattle.std.proofs.Common.{◌≡◌, ◌≢◌, ◌↔◌, ℕ, ◌+◌, ◌<◌, length, take, drop, get_or, true, false, if◌then◌else◌, List}
use Rattle.std.proofs.Common.{[], ◌∷◌, ◌++◌, Option, Some, None}
use Rattle.std.proofs.Common.{Result, Ok, Err, codes, refl, sym, ◌∙◌, ap, subst, arith, ⊎_elim}
use Rattle.std.proofs.lemmas.Bool.{cases_Bool}
use Rattle.std.proofs.lemmas.List.{take_all}
use Rattle.std.proofs.lemmas.List.Elements.{All-nil, All-cons}
use Rattle.std.proofs.lemmas.Slice.Eq.{bytes_eq-Decides}
use Rattle.std.specs.List.{All}
use Rattle.std.specs.Str.{bytes_eq}
use Rattle.save_bytes.specs.declared.path.PathFault.{PathFault}
use Rattle.save_bytes.specs.PathReading.{path_from}
use Rattle.save_bytes.proofs.PathLemmas.{path_is, path_from-text}
use Rattle.save_bytes.proofs.PathFaultLemmas.{first_fault, fault_from}
use Rattle.tree_model.specs.declared.command.Target.{Target}
use Rattle.tree_model.specs.declared.command.Target.TheVariants.{Path, Fault}
use Rattle.tree_model.specs.declared.command.Command.{Command}
use Rattle.tree_model.specs.declared.command.Command.TheVariants.{List as Listed, Room as AskRoom, Get, Put, Mkdir}
use Rattle.tree_model.specs.declared.command.Command.TheVariants.{Remove, Link, Commit, Abort, End}
use Rattle.tree_model.specs.Commands.{joined, HasNoSpace, IsTargetText, IsNamed, IsNumbered, AreWords, IsCommandText}
use Rattle.tree_model.specs.CommandReading.{number_of, target_by, target_of, bare_of, named_of, numbered_of}
use Rattle.tree_model.specs.CommandReading.{numbered_by, command_of}
use Rattle.tree_model.proofs.NumberLemmas.{number_of-some, number_of-decimal, decimal_lacks}
use Rattle.tree_model.proofs.WordLemmas.{cut_at, words_behind, same_words}

some_words : (command : Command) (words : List (List ℕ)) → AreWords command words → words ≢ []
some_words Listed words are none = cc
some_words AskRoom words are none = cc
some_words (Get target) words named none = cc
some_words (Put target size) words numbered none = cc
some_words (Mkdir target) words named none = cc
some_words (Remove target) words named none = cc
some_words (Link target id) words numbered none = cc
some_words Commit words are none = cc
some_words Abort words are none = cc
some_words End words are none = cc

-- ---- a target is read off its word

target_read : (target : Target) (word : List ℕ) → IsTargetText target word → target_of word ≡ target
target_read (Path path) word text = ap target_by (path_from-text path word text)
target_read (Fault fault) word text = ap target_by (fault_from word fault text)

target_by-text : (word : List ℕ) (read : Result (List (List ℕ)) PathFault) → path_from word ≡ read
    → IsTargetText (target_by read) word
target_by-text word (Ok path) is = path_is word path is
target_by-text word (Err fault) is = first_fault word fault is

target_text : (word : List ℕ) → IsTargetText (target_of word) word
target_text word = target_by-text word (path_from word) refl

pub target_stands : (word : List ℕ) (target : Target) → (target_of word ≡ target) ↔ IsTargetText target word
target_stands word target = (
  λ is. subst (λ (t : Target). IsTargetText t word) is (target_text word),
  λ text. target_read target word text,
)

-- ---- so is a command off its words

module _ (name : List ℕ) (target : Target) (words : List (List ℕ)) where
  named_read : (command : Target → Command) → ((t : Target) → named_of name t ≡ Some (command t))
      → IsNamed name target words → command_of words ≡ Some (command target)
  named_read command is named = ap command_of named.are
      ∙ ap (named_of name) (target_read target named.word named.stands) ∙ is target

  numbered_read : (n : ℕ) (command : Target → ℕ → Command)
      → ((t : Target) → numbered_of name t n ≡ Some (command t n))
      → IsNumbered name target n words → command_of words ≡ Some (command target n)
  numbered_read n command is numbered =
      ap command_of numbered.are
      ∙ ap (λ (t : Target). numbered_by name t (number_of numbered.number))
      (target_read target numbered.word numbered.stands)
      ∙ ap (numbered_by name target)
      (number_of-decimal numbered.number n numbered.counts.fits numbered.counts.digits)
      ∙ is target

words_read : (command : Command) (words : List (List ℕ)) → AreWords command words → command_of words ≡ Some command
words_read Listed words are = ap command_of are
words_read AskRoom words are = ap command_of are
words_read (Get target) words named = named_read (codes "get") target words Get (λ t. refl) named
words_read (Put target size) words numbered =
    numbered_read (codes "put") target words size Put (λ t. refl) numbered
words_read (Mkdir target) words named = named_read (codes "mkdir") target words Mkdir (λ t. refl) named
words_read (Remove target) words named = named_read (codes "remove") target words Remove (λ t. refl) named
words_read (Link target id) words numbered = numbered_read (codes "link") target words id Link (λ t. refl) numbered
words_read Commit words are = ap command_of are
words_read Abort words are = ap command_of are
words_read End words are = ap command_of are

-- ---- and what is read off words is their command

-- the command of this name, or one that is looked for further on
either : (name text : List ℕ) (one : Command) (rest : Option Command) (words : List (List ℕ))
    → (name ≡ text → AreWords one words) → ((command : Command) → rest ≡ Some command → AreWords command words)
    → (command : Command) → (if bytes_eq name text then Some one else rest) ≡ Some command → AreWords command words
either name text one rest words here behind command is =
    ⊎_elim
    (λ (same : bytes_eq name text ≡ true).
    let found : Some one ≡ Some command = rw same at is in
    let it : one ≡ command = cc in
    subst (λ (c : Command). AreWords c words) it (here ((bytes_eq-Decides name text).0 same)))
    (λ (other : bytes_eq name text ≡ false). behind command (rw other at is))
    (cases_Bool (bytes_eq name text))

no_more : (words : List (List ℕ)) (command : Command) → None ≡ Some command → AreWords command words
no_more words command is = absurd (cc)

bare_words : (name : List ℕ) (command : Command) → bare_of name ≡ Some command → AreWords command (name ∷ [])
bare_words name =
    let one = λ (text : List ℕ) (is : name ≡ text). ap (λ (word : List ℕ). word ∷ []) is in
    either name (codes "list") Listed _ (name ∷ []) (one (codes "list"))
    (either name (codes "room") AskRoom _ (name ∷ []) (one (codes "room"))
    (either name (codes "commit") Commit _ (name ∷ []) (one (codes "commit"))
    (either name (codes "abort") Abort _ (name ∷ []) (one (codes "abort"))
    (either name (codes "end") End _ (name ∷ []) (one (codes "end")) (no_more (name ∷ []))))))

module _ (name word : List ℕ) where
  named : (text : List ℕ) → name ≡ text → IsNamed text (target_of word) (name ∷ word ∷ [])
  named text is = record {
    word = word;
    stands = target_text word;
    are = ap (λ (first : List ℕ). first ∷ word ∷ []) is;
  }

  named_words : (command : Command) → named_of name (target_of word) ≡ Some command
      → AreWords command (name ∷ word ∷ [])
  named_words =
      either name (codes "get") (Get (target_of word)) _ (name ∷ word ∷ []) (named (codes "get"))
      (either name (codes "mkdir") (Mkdir (target_of word)) _ (name ∷ word ∷ []) (named (codes "mkdir"))
      (either name (codes "remove") (Remove (target_of word)) _ (name ∷ word ∷ []) (named (codes "remove"))
      (no_more (name ∷ word ∷ []))))

  module _ (number : List ℕ) where
    numbered : (n : ℕ) → number_of number ≡ Some n → (text : List ℕ) → name ≡ text
        → IsNumbered text (target_of word) n (name ∷ word ∷ number ∷ [])
    numbered n counts text is =
        let parts = number_of-some number n counts in
        record {
          word = word;
          number = number;
          stands = target_text word;
          counts = record { digits = parts.0; fits = parts.1 };
          are = ap (λ (first : List ℕ). first ∷ word ∷ number ∷ []) is;
        }

    numbered_words : (found : Option ℕ) → number_of number ≡ found → (command : Command)
        → numbered_by name (target_of word) found ≡ Some command → AreWords command (name ∷ word ∷ number ∷ [])
    numbered_words None is command none = absurd (cc)
    numbered_words (Some n) is command read =
        either name (codes "put") (Put (target_of word) n) _ (name ∷ word ∷ number ∷ []) (numbered n is (codes "put"))
        (either name (codes "link") (Link (target_of word) n) _ (name ∷ word ∷ number ∷ [])
        (numbered n is (codes "link")) (no_more (name ∷ word ∷ number ∷ []))) command read

read_words : (words : List (List ℕ)) (command : Command) → command_of words ≡ Some command → AreWords command words
read_words [] command is = absurd (cc)
read_words (name ∷ []) command is = bare_words name command is
read_words (name ∷ word ∷ []) command is = named_words name word command is
read_words (name ∷ word ∷ number ∷ []) command is =
    numbered_words name word number (number_of number) refl command is
read_words (name ∷ word ∷ number ∷ more ∷ words) command is = absurd (cc)

-- ---- a line and its words

-- a line is read by its words
pub line_read : (words : List (List ℕ)) (line : List ℕ) → All HasNoSpace words → words ≢ [] → line ≡ joined words
    → (command : Command) → (command_of words ≡ Some command) ↔ IsCommandText line command
line_read words line all some is command = (
  λ read. record { words = words; are = read_words words command read; spaceless = all; is = is },
  λ text.
      (let one = same_words text.words words text.spaceless all (some_words command text.words text.are) some
      (sym text.is ∙ is) in
      words_read command words (subst (AreWords command) one text.are)),
)

-- one command a line
pub one_command : (line : List ℕ) (command other : Command) → IsCommandText line command → IsCommandText line other
    → command ≡ other
one_command line command other first second =
    let one = same_words first.words second.words first.spaceless second.spaceless
    (some_words command first.words first.are) (some_words other second.words second.are) (sym first.is ∙ second.is) in
    let here : command_of first.words ≡ Some command = words_read command first.words first.are in
    let there : command_of second.words ≡ Some other = words_read other second.words second.are in
    cc

-- a third word that a command has is a number, and the last
number_last : (command : Command) (name word number : List ℕ) (more : List (List ℕ))
    → AreWords command (name ∷ word ∷ number ∷ more) → HasNoSpace number × (more ≡ [])
number_last Listed name word number more are = absurd (cc)
number_last AskRoom name word number more are = absurd (cc)
number_last (Get target) name word number more named = absurd (cc)
number_last (Put target size) name word number more numbered =
    let same : number ≡ numbered.number = cc in
    (rw (same, numbered.counts.digits) (decimal_lacks 32 (omega arith) size), cc)
number_last (Mkdir target) name word number more named = absurd (cc)
number_last (Remove target) name word number more named = absurd (cc)
number_last (Link target id) name word number more numbered =
    let same : number ≡ numbered.number = cc in
    (rw (same, numbered.counts.digits) (decimal_lacks 32 (omega arith) id), cc)
number_last Commit name word number more are = absurd (cc)
number_last Abort name word number more are = absurd (cc)
number_last End name word number more are = absurd (cc)

pub bare_line : (line : List ℕ) → HasNoSpace line → (command : Command)
    → (bare_of line ≡ Some command) ↔ IsCommandText line command
bare_line line spaceless =
    line_read (line ∷ []) line (All-cons HasNoSpace line [] spaceless (All-nil HasNoSpace)) (λ none. cc) refl

module _ (line name word : List ℕ) (name_spaceless : HasNoSpace name) (spaceless : HasNoSpace word) where
  pub named_line : line ≡ name ++ 32 ∷ word → (command : Command)
      → (named_of name (target_of word) ≡ Some command) ↔ IsCommandText line command
  named_line = line_read (name ∷ word ∷ []) line
      (All-cons HasNoSpace name (word ∷ []) name_spaceless
      (All-cons HasNoSpace word [] spaceless (All-nil HasNoSpace))) (λ none. cc)

  pub numbered_line : (number : List ℕ) → line ≡ name ++ 32 ∷ (word ++ 32 ∷ number) → (command : Command)
      → (numbered_by name (target_of word) (number_of number) ≡ Some command) ↔ IsCommandText line command
  numbered_line number is command = (
    λ read.
        (let are = read_words (name ∷ word ∷ number ∷ []) command read in
        record {
          words = name ∷ word ∷ number ∷ [];
          are = are;
          spaceless = All-cons HasNoSpace name (word ∷ number ∷ []) name_spaceless
              (All-cons HasNoSpace word (number ∷ []) spaceless
              (All-cons HasNoSpace number [] (number_last command name word number [] are).0 (All-nil HasNoSpace)));
          is = is;
        }),
    λ text.
        (let first = words_behind text.words name (word ++ 32 ∷ number) text.spaceless
        (some_words command text.words text.are) name_spaceless (sym is ∙ text.is) in
        let second = words_behind (first.next ∷ first.more) word number first.spaceless (λ none. cc) spaceless
        first.is in
        let three : text.words ≡ name ∷ word ∷ second.next ∷ second.more = first.are
        ∙ ap (λ (words : List (List ℕ)). name ∷ words) second.are in
        let last = number_last command name word second.next second.more (subst (AreWords command) three text.are) in
        let same : number ≡ second.next = second.is
        ∙ ap (λ (more : List (List ℕ)). joined (second.next ∷ more)) last.1 in
        let words : text.words ≡ name ∷ word ∷ number ∷ [] = three
        ∙ ap (λ (more : List (List ℕ)). name ∷ word ∷ second.next ∷ more) last.1
        ∙ ap (λ (n : List ℕ). name ∷ word ∷ n ∷ []) (sym same) in
        words_read command (name ∷ word ∷ number ∷ []) (subst (AreWords command) words text.are)),
  )

-- ---- a line cut where its first word ends, and what stands behind that

module _ (line : List ℕ) (first : ℕ) (word : HasNoSpace (take first line)) (found : Option Command) where
  pub cut_nowhere : first ≡ length line → found ≡ bare_of line → (command : Command)
      → (found ≡ Some command) ↔ IsCommandText line command
  cut_nowhere whole is =
      rw is (bare_line line (subst HasNoSpace (take_all first line (omega arith)) word))

  module _ (more : first < length line) (space : get_or line first 0 ≡ 32) (rest : List ℕ)
      (behind : rest ≡ drop (first + 1) line) (second : ℕ) (path : HasNoSpace (take second rest)) where
    pub cut_once : second ≡ length rest → found ≡ named_of (take first line) (target_of rest) → (command : Command)
        → (found ≡ Some command) ↔ IsCommandText line command
    cut_once whole is =
        rw is (named_line line (take first line) rest word
        (subst HasNoSpace (take_all second rest (omega arith)) path)
        (rw behind (cut_at 32 line first more space)))

    pub cut_twice : (number : List ℕ) → number ≡ drop (second + 1) rest → second < length rest
        → get_or rest second 0 ≡ 32
        → found ≡ numbered_by (take first line) (target_of (take second rest)) (number_of number)
        → (command : Command) → (found ≡ Some command) ↔ IsCommandText line command
    cut_twice number last more_behind space_behind is =
        let parts : rest ≡ take second rest ++ 32 ∷ number =
        cut_at 32 rest second more_behind space_behind
        ∙ ap (λ (tail : List ℕ). take second rest ++ 32 ∷ tail) (sym last) in
        rw is (numbered_line line (take first line) (take second rest) word path number
        (cut_at 32 line first more space
        ∙ ap (λ (tail : List ℕ). take first line ++ 32 ∷ tail) (sym behind ∙ parts)))

-- no command where there is none
pub none_read : {A : Type 0} (P : A → Type 0) (found : Option A) → ((a : A) → (found ≡ Some a) ↔ P a)
    → (found ≡ None) ↔ ((a : A) → ¬ P a)
none_read P None exact = (λ none a holds. (let some = (exact a).1 holds in cc), λ never. refl)
none_read P (Some a) exact = (λ none. absurd (cc), λ never. absurd (never a ((exact a).0 refl)))
