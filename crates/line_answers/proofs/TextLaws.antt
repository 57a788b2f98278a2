-- Texts that are written piece by piece.
use Rattle.std.proofs.Common.{◌≡◌, ◌∙◌, ℕ, List, ◌++◌, append_assoc, ap, sym}

-- words and a number, and then a blank and a name
pub numbered_name : (text words number blank name one two : List ℕ) → one ≡ text ++ (words ++ number) → two ≡ one ++ (blank ++ name)
    → two ≡ text ++ (((words ++ number) ++ blank) ++ name)
numbered_name text words number blank name one two first then =
    then ∙ ap (λ (xs : List ℕ). xs ++ (blank ++ name)) first ∙ append_assoc text (words ++ number) (blank ++ name)
    ∙ ap (λ (xs : List ℕ). text ++ xs) (sym (append_assoc (words ++ number) blank name))

-- four numbers, each behind a blank
pub four_numbers : (blank text first second third fourth one two three four : List ℕ) → one ≡ text ++ (blank ++ first)
    → two ≡ one ++ (blank ++ second) → three ≡ two ++ (blank ++ third) → four ≡ three ++ (blank ++ fourth)
    → four ≡ text ++ (blank ++ first ++ blank ++ second ++ blank ++ third ++ blank ++ fourth)
four_numbers blank text first second third fourth one two three four is_one is_two is_three is_four =
    is_four ∙ ap (λ (xs : List ℕ). xs ++ (blank ++ fourth)) (is_three ∙ ap (λ (xs : List ℕ). xs ++ (blank ++ third)) (is_two
    ∙ ap (λ (xs : List ℕ). xs ++ (blank ++ second)) is_one)) ∙ simp append_assoc
