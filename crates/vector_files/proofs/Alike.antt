-- Names that are alike say the same of each line.
use Rattle.vector_files.proofs.Common.{◌≡◌, ℕ, List, [], ◌∷◌, Ok, Err, refl, ap, ◌∙◌, if◌then◌else◌, ok_or, option_map, Some, lines_of, words_of}
use Rattle.vector_files.proofs.Common.{and_then, saying, Set, Free, Size, Show, node_in, level_in, size_in, is_rail_name, unless_rail, changed_node}
use Rattle.vector_files.proofs.Common.{asked_in, show_line, command_line, words_say, is_comment, line_says, says, IsLikeNamed}
use Rattle.std.specs.Prelude.{None}
use Rattle.std.proofs.Math.Path.{fun_ext}
use Rattle.text_form.specs.Folds.{text_state}
use Rattle.vector_files.specs.declared.faults.VecFault.TheVariants.{Vector, NoNode}
use Rattle.vector_files.specs.LineForms.{set_line, free_line, size_line}
use Rattle.vector_files.specs.VectorFiles.{nothing_yet, with_said, vectors_in}

module _ (known named : List (List ℕ × ℕ)) (like : IsLikeNamed known named) where
  node-alike : (name : List ℕ) → node_in known name ≡ node_in named name
  node-alike name = ap (λ found. ok_or found (NoNode name)) (like.nodes name)

  unless_rail-alike : unless_rail known ≡ unless_rail named
  unless_rail-alike = fun_ext (λ v. ap (λ t. if t then Err Vector else Ok v) (like.rails v))

  changed-alike : (name : List ℕ) → changed_node known name ≡ changed_node named name
  changed-alike name =
      ap (λ found. if is_rail_name name then Err Vector else found)
      (ap (λ found. and_then found (unless_rail known)) (node-alike name) ∙ ap (and_then (node_in named name)) unless_rail-alike)

  set-alike : (words : List (List ℕ)) → set_line known words ≡ set_line named words
  set-alike [] = refl
  set-alike (name ∷ []) = refl
  set-alike (name ∷ level ∷ []) = ap (λ found. and_then (level_in level) (λ x. and_then found (λ v. Ok (Set v x)))) (changed-alike name)
  set-alike (name ∷ level ∷ word ∷ words) = refl

  free-alike : (words : List (List ℕ)) → free_line known words ≡ free_line named words
  free-alike [] = refl
  free-alike (name ∷ []) = ap (λ found. and_then found (λ v. Ok (Free v))) (changed-alike name)
  free-alike (name ∷ word ∷ words) = refl

  size-alike : (words : List (List ℕ)) → size_line known words ≡ size_line named words
  size-alike [] = refl
  size-alike (name ∷ []) = refl
  size-alike (name ∷ size ∷ []) = ap (λ found. and_then (size_in size) (λ k. and_then found (λ v. Ok (Size v k)))) (changed-alike name)
  size-alike (name ∷ size ∷ word ∷ words) = refl

  asked-alike : (words : List (List ℕ)) → asked_in known words ≡ asked_in named words
  asked-alike [] = refl
  asked-alike (name ∷ words) =
      ap (λ found. and_then found (λ v. and_then (asked_in known words) (λ asked. Ok ((name, v) ∷ asked)))) (node-alike name)
      ∙ ap (λ found. and_then (node_in named name) (λ v. and_then found (λ asked. Ok ((name, v) ∷ asked)))) (asked-alike words)

  show-alike : (words : List (List ℕ)) → show_line known words ≡ show_line named words
  show-alike [] = refl
  show-alike (name ∷ words) = ap (λ found. and_then found (λ asked. Ok (Show asked))) (asked-alike (name ∷ words))

  command-alike : (key : List ℕ) (words : List (List ℕ)) → command_line known key words ≡ command_line named key words
  command-alike key words = rw (set-alike words, free-alike words, size-alike words, show-alike words) refl

  words-alike : (words : List (List ℕ)) → words_say known words ≡ words_say named words
  words-alike [] = refl
  words-alike (key ∷ words) = ap (λ found. and_then found (λ said. Ok (Some said))) (command-alike key words)

  line-alike : (line : List ℕ) → line_says known line ≡ line_says named line
  line-alike line = ap (λ found. if is_comment line then Ok None else found) (words-alike (words_of line))

  says-alike : says known ≡ says named
  says-alike = fun_ext (λ number. fun_ext (λ line.
      ap (λ found. and_then found (λ said. Ok (option_map (λ x. (number, x)) said))) (line-alike line)))

  pub vectors-alike : (text : List ℕ) → vectors_in known text ≡ vectors_in named text
  unfolding vectors_in
  vectors-alike text = ap (λ said. text_state (saying said with_said) Ok nothing_yet (lines_of text)) says-alike
