-- The lines of a text, line by line.
use Rattle.std.proofs.Common.{◌≡◌, ℕ, ◌+◌, ◌<◌, ◌≤◌, false, cond, List, [], ◌∷◌, ◌++◌, length, map, refl, sym, ap, ◌∙◌, arith, inl, inr}
use Rattle.std.specs.List.{slice_split, onto_first, before_first, after_first, position_or_len, All}
use Rattle.std.specs.Str.Lines.{strip_carriage_return}
use Rattle.std.proofs.Math.ListN.{drop_of_length-le}
use Rattle.std.proofs.lemmas.Bool.{cases_lt, cases_Bool, ne_eqb}
use Rattle.std.proofs.lemmas.List.{take_all, length-map}
use Rattle.std.proofs.lemmas.List.Splits.{slice_split_first, slice_split_none, slice_split_at, slice_split-cons_yes, slice_split-cons_no, length-slice_split}
use Rattle.std.proofs.lemmas.List.Sums.{fails_before_first}
use Rattle.text_scan.specs.Lines.{lines_of, is_line_feed, without_empty_last}

-- a part before another one stays
without_empty_last-cons : (part : List ℕ) (parts : List (List ℕ)) → 0 < length parts → without_empty_last (part ∷ parts) ≡ part ∷ without_empty_last parts
without_empty_last-cons part [] h = absurd (omega arith)
without_empty_last-cons part (next ∷ parts) h = refl

without_empty_last-one : (part : List ℕ) → 0 < length part → without_empty_last (part ∷ []) ≡ part ∷ []
without_empty_last-one part h =
    ap (λ test. cond test [] (part ∷ [])) (ne_eqb (length part) 0 (λ e. omega arith))

some_part : (text : List ℕ) → 0 < length (slice_split is_line_feed text)
some_part text = omega (arith, length-slice_split is_line_feed text)

pub lines_of-nil : lines_of [] ≡ []
unfolding lines_of
lines_of-nil = refl

-- the first line of a text, and the lines of what follows its line feed
pub lines_of-first : (text : List ℕ) → 0 < length text
    → lines_of text ≡ strip_carriage_return (before_first is_line_feed text) ∷ lines_of (after_first is_line_feed text)
unfolding lines_of
lines_of-first text some =
    elim (cases_lt (position_or_len is_line_feed text) (length text)) [
      | inl inside ↦
          ap (λ parts. map strip_carriage_return (without_empty_last parts)) (slice_split_first is_line_feed text 0 inside)
          ∙ ap (map strip_carriage_return) (without_empty_last-cons _ _ (some_part (after_first is_line_feed text)))
      | inr past ↦
          let none : All (λ byte. is_line_feed byte ≡ false) text = λ k d m. fails_before_first is_line_feed text k d (omega arith) in
          let whole = take_all (position_or_len is_line_feed text) text past in
          let rest = drop_of_length-le text {i = position_or_len is_line_feed text + 1} (omega arith) in
          ap (λ parts. map strip_carriage_return (without_empty_last parts)) (slice_split_none is_line_feed text none)
          ∙ (ap (map strip_carriage_return) (without_empty_last-one text some)
          ∙ (ap (λ front. strip_carriage_return front ∷ []) (sym whole)
          ∙ ap (λ back. strip_carriage_return (before_first is_line_feed text) ∷ lines_of back) (sym rest)))
    ]

-- a line feed after bytes that are none ends the first line
pub lines_of-at : (front rest : List ℕ) → All (λ byte. is_line_feed byte ≡ false) front
    → lines_of (front ++ 10 ∷ rest) ≡ strip_carriage_return front ∷ lines_of rest
unfolding lines_of
lines_of-at front rest none =
    ap (λ parts. map strip_carriage_return (without_empty_last parts)) (slice_split_at is_line_feed front 10 rest none refl)
    ∙ ap (map strip_carriage_return) (without_empty_last-cons front _ (some_part rest))

length-without_empty_last-onto_first : (byte : ℕ) (parts : List (List ℕ))
    → length (without_empty_last (onto_first byte parts)) ≤ length (without_empty_last parts) + 1
length-without_empty_last-onto_first byte [] = omega arith
length-without_empty_last-onto_first byte (part ∷ []) = omega (arith, ap length (without_empty_last-one (byte ∷ part) (omega arith)))
length-without_empty_last-onto_first byte (part ∷ next ∷ parts) = omega arith

length-parts : (text : List ℕ) → length (without_empty_last (slice_split is_line_feed text)) ≤ length text
length-parts [] = omega arith
length-parts (byte ∷ text) =
    elim (cases_Bool (is_line_feed byte)) [
      | inl ends ↦
          omega (
            arith,
            length-parts text,
            ap (λ parts. length (without_empty_last parts)) (slice_split-cons_yes is_line_feed byte text ends),
            ap length
                (without_empty_last-cons [] _ (some_part text)),
          )
      | inr goes_on ↦
          omega (
            arith,
            length-parts text,
            ap (λ parts. length (without_empty_last parts)) (slice_split-cons_no is_line_feed byte text goes_on),
            length-without_empty_last-onto_first byte (slice_split is_line_feed text),
          )
    ]

-- a text has no more lines than bytes
pub length-lines_of : (text : List ℕ) → length (lines_of text) ≤ length text
unfolding lines_of
length-lines_of text =
    omega (arith, length-parts text, length-map (without_empty_last (slice_split is_line_feed text)) strip_carriage_return)
