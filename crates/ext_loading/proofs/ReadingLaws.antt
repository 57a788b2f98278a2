-- How reading goes on, by a name that is taken: where the files are told, and whatever they are.
use Rattle.ext_loading.proofs.Common.{◌≡◌, ℕ, true, false, List, [], ◌∷◌, ◌++◌, inl, inr, refl, sym, ap, ◌∙◌, subst, reverse, bytes_eq-Decides}
use Rattle.ext_loading.proofs.Common.{bytes_eq, In, Distinct, Files, GoesOn, Reads, ArrayExt, cells_read, cells_used, circuit_files, IsTree}
use Rattle.std.proofs.Common.{append-nil}
use Rattle.std.specs.Prelude.{map, All, Ok}
use Rattle.std.proofs.lemmas.List.{map-append, reverse-append, reverse-reverse}
use Rattle.std.proofs.lemmas.List.Elements.{All-nil, All-push}
use Rattle.finite_sets.proofs.Distincts.{Distinct-push}
use Rattle.finite_sets.proofs.Members.{In-append_left, In-append_right, In-append_cases, In-push_cases}
use Rattle.finite_sets.proofs.Searches.{In-from_list_any, absent-from_list_any}
use Rattle.session_model.proofs.FileTreeLaws.{goes_by}
use Rattle.ext_model.specs.LawfulArrays.{IsLawfulArrayExt}
use Rattle.ext_loading.specs.ExtFiles.{file_gives, is_read}
use Rattle.ext_loading.specs.steps.Trees.{AreSoFar, MayFollow}

-- a list turned round, after a function or before it
pub map-reverse : {X Y : Type 0} (f : X → Y) (xs : List X) → map f (reverse xs) ≡ reverse (map f xs)
map-reverse f [] = refl
map-reverse f (x ∷ xs) =
    ap (map f) (reverse-append (x ∷ []) xs) ∙ map-append f (reverse xs) (x ∷ []) ∙ ap (λ ys. ys ++ f x ∷ []) (map-reverse f xs)
    ∙ sym (reverse-append (f x ∷ []) (map f xs))

-- ---- where the files are told

-- a name that is put on the names that are left is the next
pub next_name : (left : List (List ℕ)) (name : List ℕ) → reverse (left ++ name ∷ []) ≡ name ∷ reverse left
next_name left name = reverse-append left (name ∷ [])

module _ (read read_after : List ArrayExt) (left left_after : List (List ℕ)) (name : List ℕ) (ext : ArrayExt) (read_is : read_after ≡ read ++ ext ∷ [])
    (left_is : left_after ≡ left ++ reverse (cells_used ext)) (new : is_read read name ≡ false) where
  -- the cells that it uses come first
  names_are : reverse left_after ≡ cells_used ext ++ reverse left
  names_are =
      ap reverse left_is ∙ reverse-append left (reverse (cells_used ext))
      ∙ ap (λ (names : List (List ℕ)). names ++ reverse left) (reverse-reverse (cells_used ext))

  -- reading goes on by a file that is read
  pub goes_on_by : (files : Files) → file_gives files read name ≡ Ok ext
      → GoesOn circuit_files files read (name ∷ reverse left) read_after (reverse left_after)
  goes_on_by files gives reading rest =
      goes_by circuit_files files read name ext (reverse left) new gives reading
      (subst (λ (names : List (List ℕ)). Reads circuit_files files (read ++ ext ∷ []) names reading) names_are
      (subst (λ (exts : List ArrayExt). Reads circuit_files files exts (reverse left_after) reading) read_is rest))

  -- ---- whatever the files are

  cells_are : cells_read read_after ≡ cells_read read ++ ext.cell ∷ []
  cells_are = ap cells_read read_is ∙ map-append (λ (e : ArrayExt). e.cell) read (ext ∷ [])

  -- a cell that was read or left is so still
  still_there : ext.cell ≡ name → (other : List ℕ) → In other (cells_read read ++ (name ∷ reverse left))
      → In other (cells_read read_after ++ reverse left_after)
  still_there same other there =
      subst (λ (cells : List (List ℕ)). In other (cells ++ reverse left_after)) (sym cells_are)
      (subst (λ (names : List (List ℕ)). In other ((cells_read read ++ ext.cell ∷ []) ++ names)) (sym names_are)
      (elim (In-append_cases other (cells_read read) (name ∷ reverse left) there) [
        | inl before ↦ In-append_left other (cells_read read ++ ext.cell ∷ []) (cells_used ext ++ reverse left)
            (In-append_left other (cells_read read) (ext.cell ∷ []) before)
        | inr behind ↦ elim behind [
          | inl is ↦ In-append_left other (cells_read read ++ ext.cell ∷ []) (cells_used ext ++ reverse left)
              (In-append_right other (cells_read read) (ext.cell ∷ []) (inl (same ∙ is)))
          | inr later ↦ In-append_right other (cells_read read ++ ext.cell ∷ []) (cells_used ext ++ reverse left)
              (In-append_right other (cells_used ext) (reverse left) later)
        ]
      ]))

  -- a cell that the record uses is left
  used_is_left : (other : List ℕ) → In other (cells_used ext) → In other (cells_read read_after ++ reverse left_after)
  used_is_left other used =
      In-append_right other (cells_read read_after) (reverse left_after)
      (subst (λ (names : List (List ℕ)). In other names) (sym names_are) (In-append_left other (cells_used ext) (reverse left) used))

  pub so_far_read : (root : List ℕ) → MayFollow read name ext → AreSoFar root read (name ∷ reverse left) → AreSoFar root read_after (reverse left_after)
  so_far_read root follows are = record {
    records = record {
      lawful = subst (All IsLawfulArrayExt) (sym read_is) (All-push IsLawfulArrayExt read ext are.records.lawful follows.lawful);
      cells_differ = subst Distinct (sym cells_are) (Distinct-push (cells_read read) ext.cell are.records.cells_differ
          (λ there. absent-from_list_any bytes_eq bytes_eq-Decides name (cells_read read) new
          (subst (λ (n : List ℕ). In n (cells_read read)) follows.cell there)));
    };
    asked = λ other asked. elim asked [
      | inl is ↦ still_there follows.cell other (are.asked other (inl is))
      | inr by ↦ elim (In-push_cases by.0 read ext (subst (λ (exts : List ArrayExt). In by.0 exts) read_is by.1.0)) [
        | inl old ↦ still_there follows.cell other (are.asked other (inr (by.0, (old, by.1.1))))
        | inr is ↦ used_is_left other (subst (λ (e : ArrayExt). In other (cells_used e)) (sym is) by.1.1)
      ]
    ];
  }

-- before the first file
pub so_far_start : (root : List ℕ) → AreSoFar root [] (root ∷ [])
so_far_start root = record {
  records = record { lawful = All-nil IsLawfulArrayExt; cells_differ = tt };
  asked = λ name asked. elim asked [ inl is ↦ inl is | inr by ↦ absurd by.1.0 ];
}

-- a name that was read is passed over
pub so_far_passed : (root : List ℕ) (read : List ArrayExt) (name : List ℕ) (left : List (List ℕ)) → is_read read name ≡ true
    → AreSoFar root read (name ∷ left) → AreSoFar root read left
so_far_passed root read name left known are = record {
  records = are.records;
  asked = λ other asked. elim (In-append_cases other (cells_read read) (name ∷ left) (are.asked other asked)) [
    | inl before ↦ In-append_left other (cells_read read) left before
    | inr behind ↦ elim behind [
      | inl is ↦ In-append_left other (cells_read read) left
          (subst (λ (n : List ℕ). In n (cells_read read)) is (In-from_list_any bytes_eq bytes_eq-Decides name (cells_read read) known))
      | inr later ↦ In-append_right other (cells_read read) left later
    ]
  ];
}

-- where no name is left the records are those of a tree
pub so_far_end : (root : List ℕ) (read : List ArrayExt) → AreSoFar root read [] → IsTree root read
so_far_end root read are = record {
  records = are.records;
  asked = λ name asked. subst (λ (names : List (List ℕ)). In name names) (append-nil (cells_read read)) (are.asked name asked);
}
