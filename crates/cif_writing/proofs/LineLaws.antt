-- Lines of things in order: one thing more, and that there is one list of them where each thing has one.
use Rattle.cif_writing.proofs.Common.{◌≡◌, ◌+◌, ℕ, List, [], ◌∷◌, ◌++◌, length, refl, sym, ap, subst, ◌∙◌, append_assoc, append-nil, arith, Some}
use Rattle.cif_writing.proofs.Common.{slice_get, AreRuns}
use Rattle.std.proofs.Common.{suc}

module _ {X : Type 0} (Of : ℕ → X → List (List ℕ) → Type 0) where
  -- the lines of one thing more
  pub lines_more : (number last : ℕ) (xs : List X) (x : X) (lines more : List (List ℕ)) → last ≡ number + length xs → AreRuns Of number xs lines
      → Of last x more → AreRuns Of number (xs ++ x ∷ []) (lines ++ more)
  lines_more number last [] x lines more at none is =
      let same : last ≡ number = omega arith in
      (more, [], ap (λ (l : List (List ℕ)). l ++ more) none ∙ sym (append-nil more), subst (λ (n : ℕ). Of n x more) same is, refl)
  lines_more number last (y ∷ xs) x lines more at (first, rest, are, here, later) is = (
    first,
    rest ++ more,
    ap (λ (l : List (List ℕ)). l ++ more) are ∙ append_assoc first rest more,
    here,
    lines_more (suc number) last xs x rest more (omega arith) later is,
  )

  -- Each thing has one list of lines, whatever its number.
  abbrev pub HasOne : List X → Type 0
  HasOne xs = (n k : ℕ) (x : X) → slice_get xs k ≡ Some x → (a b : List (List ℕ)) → Of n x a → Of n x b → a ≡ b

  -- so there is one list of the lines of all
  pub one_list_of_lines : (number : ℕ) (xs : List X) → HasOne xs → (a b : List (List ℕ)) → AreRuns Of number xs a → AreRuns Of number xs b → a ≡ b
  one_list_of_lines number [] one a b is too = is ∙ sym too
  one_list_of_lines number (x ∷ xs) one a b (first, rest, are, here, later) (first', rest', are', here', later') =
      let same : first ≡ first' = one number 0 x refl first first' here here' in
      let same_rest : rest ≡ rest' =
      one_list_of_lines (suc number) xs (λ n k y at c d p q. one n (suc k) y at c d p q) rest rest' later later' in
      are ∙ ap (λ (l : List (List ℕ)). l ++ rest) same ∙ ap (λ (l : List (List ℕ)). first' ++ l) same_rest ∙ sym are'

  -- The lines of a list of things, cut at one of them: those of the things before, its own, and what stands behind.
  pub record LinesCut (number last : ℕ) (front : List X) (x : X) (lines : List (List ℕ)) : Type 0 where
    pub before : List (List ℕ)
    pub here : List (List ℕ)
    pub after : List (List ℕ)
    pub whole : lines ≡ before ++ (here ++ after)
    pub of_front : AreRuns Of number front before
    pub of_one : Of last x here

  -- they can be cut so
  pub lines_cut : (number last : ℕ) (front : List X) (x : X) (rest : List X) (lines : List (List ℕ)) → last ≡ number + length front
      → AreRuns Of number (front ++ x ∷ rest) lines → LinesCut number last front x lines
  lines_cut number last [] x rest lines at (first, others, are, here, later) =
      let same : number ≡ last = omega arith in
      record {
        before = [];
        here = first;
        after = others;
        whole = are;
        of_front = refl;
        of_one = subst (λ (n : ℕ). Of n x first) same here;
      }
  lines_cut number last (y ∷ front) x rest lines at (first, others, are, here, later) =
      let cut = lines_cut (suc number) last front x rest others (omega arith) later in
      record {
        before = first ++ cut.before;
        here = cut.here;
        after = cut.after;
        whole = are ∙ ap (λ (l : List (List ℕ)). first ++ l) cut.whole ∙ sym (append_assoc first cut.before (cut.here ++ cut.after));
        of_front = (first, cut.before, refl, here, cut.of_front);
        of_one = cut.of_one;
      }
