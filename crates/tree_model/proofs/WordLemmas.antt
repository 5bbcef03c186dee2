-- Texts cut at a byte, and words with one space between them cut apart.
use Rattle.std.proofs.Common.{◌≡◌, ◌≢◌, ℕ, ◌+◌, ◌<◌, List, [], ◌∷◌, ◌++◌, length, take, drop, get_or, refl, sym, ◌∙◌}
use Rattle.std.proofs.Common.{ap}
use Rattle.std.proofs.lemmas.List.{take-append-drop, drop_more}
use Rattle.std.proofs.lemmas.List.Elements.{All-head, All-tail}
use Rattle.std.specs.List.{All}
use Rattle.tree_model.specs.Commands.{joined, Lacks, HasNoSpace}

-- ---- texts cut at a byte

module _ (mark : ℕ) where
  abbrev IsOther : ℕ → Type 0
  IsOther byte = byte ≢ mark

  -- a text at whose place k the byte stands
  pub cut_at : (text : List ℕ) (k : ℕ) → k < length text → get_or text k 0 ≡ mark
      → text ≡ take k text ++ mark ∷ drop (k + 1) text
  cut_at text k inside is =
      sym (take-append-drop k text)
      ∙ ap (λ (behind : List ℕ). take k text ++ behind)
      (drop_more text k 0 inside ∙ ap (λ (first : ℕ). first ∷ drop (k + 1) text) is)

  -- what stands in front of the first such byte, and behind it
  pub first_cut : (a b x y : List ℕ) → Lacks mark a → Lacks mark b → a ++ mark ∷ x ≡ b ++ mark ∷ y
      → (a ≡ b) × (x ≡ y)
  first_cut [] [] x y first second is = (refl, cc)
  first_cut [] (byte ∷ b) x y first second is = absurd (All-head IsOther byte b second (cc))
  first_cut (byte ∷ a) [] x y first second is = absurd (All-head IsOther byte a first (cc))
  first_cut (byte ∷ a) (other ∷ b) x y first second is =
      let head : byte ≡ other = cc in
      let tail : a ++ mark ∷ x ≡ b ++ mark ∷ y = cc in
      let rest = first_cut a b x y (All-tail IsOther byte a first) (All-tail IsOther other b second) tail in
      let same : a ≡ b = rest.0 in
      (cc, rest.1)

  -- a text without it is not cut
  pub uncut : (text a x : List ℕ) → Lacks mark text → text ≡ a ++ mark ∷ x → ⊥
  uncut [] [] x lacks is = cc
  uncut [] (byte ∷ a) x lacks is = cc
  uncut (byte ∷ text) [] x lacks is = All-head IsOther byte text lacks (cc)
  uncut (byte ∷ text) (other ∷ a) x lacks is = uncut text a x (All-tail IsOther byte text lacks) (cc)

-- ---- words with one space between them

-- a first word, and those behind it
pub record IsCut (words : List (List ℕ)) (first rest : List ℕ) : Type 0 where
  pub next : List ℕ
  pub more : List (List ℕ)
  pub are : words ≡ first ∷ next ∷ more
  pub spaceless : All HasNoSpace (next ∷ more)
  pub is : rest ≡ joined (next ∷ more)

pub words_behind : (words : List (List ℕ)) (first rest : List ℕ) → All HasNoSpace words → words ≢ []
    → HasNoSpace first → first ++ 32 ∷ rest ≡ joined words → IsCut words first rest
words_behind [] first rest all some spaceless is = absurd (some refl)
words_behind (word ∷ []) first rest all some spaceless is =
    absurd (uncut 32 word first rest (All-head HasNoSpace word [] all) (sym is))
words_behind (word ∷ next ∷ more) first rest all some spaceless is =
    let same = first_cut 32 first word rest (joined (next ∷ more)) spaceless
    (All-head HasNoSpace word (next ∷ more) all) is in
    record {
      next = next;
      more = more;
      are = ap (λ (w : List ℕ). w ∷ next ∷ more) (sym same.0);
      spaceless = All-tail HasNoSpace word (next ∷ more) all;
      is = same.1;
    }

word_alone : (words : List (List ℕ)) (line : List ℕ) → All HasNoSpace words → words ≢ [] → HasNoSpace line
    → line ≡ joined words → line ∷ [] ≡ words
word_alone [] line all some spaceless is = absurd (some refl)
word_alone (word ∷ []) line all some spaceless is = ap (λ (w : List ℕ). w ∷ []) is
word_alone (word ∷ next ∷ more) line all some spaceless is = absurd
    (uncut 32 line word (joined (next ∷ more)) spaceless is)

-- a text has one list of words
pub same_words : (words others : List (List ℕ)) → All HasNoSpace words → All HasNoSpace others → words ≢ []
    → others ≢ [] → joined words ≡ joined others → words ≡ others
same_words [] others all all_others some some_others is = absurd (some refl)
same_words (word ∷ []) others all all_others some some_others is =
    word_alone others word all_others some_others (All-head HasNoSpace word [] all) is
same_words (word ∷ next ∷ more) others all all_others some some_others is =
    let cut = words_behind others word (joined (next ∷ more)) all_others some_others
    (All-head HasNoSpace word (next ∷ more) all) is in
    let rest = same_words (next ∷ more) (cut.next ∷ cut.more) (All-tail HasNoSpace word (next ∷ more) all) cut.spaceless
    (λ none. cc) (λ none. cc) cut.is in
    ap (λ (words : List (List ℕ)). word ∷ words) rest ∙ sym cut.are
