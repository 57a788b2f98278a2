-- What a line says fits the network.
use Rattle.vector_files.proofs.Common.{◌≡◌, ℕ, List, [], ◌∷◌, refl, sym, if◌then◌else◌, Some, ok_or, option_map, bytes_eq, cases_Bool, lines_of}
use Rattle.vector_files.proofs.Common.{words_of, and_then, saying, VecFault, VecLine, Set, Free, Size, Show, Vectors, node_in, level_in, size_in}
use Rattle.vector_files.proofs.Common.{is_rail, is_rail_name, unless_rail, changed_node, asked_in, show_line, command_line, words_say, is_comment}
use Rattle.vector_files.proofs.Common.{line_says, says}
use Rattle.std.proofs.Common.{◌<◌, Bool, true, false, inl, inr, subst, arith}
use Rattle.std.specs.Prelude.{All, Option, None, Result, Ok, Err, IfOk, IfSome, codes}
use Rattle.std.proofs.lemmas.List.Elements.{All-nil, All-cons, All-push}
use Rattle.text_form.proofs.FoldLaws.{first_fault_or-keeps, text_state-Ok}
use Rattle.switch_net.specs.declared.switches.Level.{Level}
use Rattle.switch_net.specs.Names.{NameNodesBelow}
use Rattle.switch_net.specs.Network.{IsSize}
use Rattle.vector_files.specs.declared.faults.VecFault.TheVariants.{Vector}
use Rattle.vector_files.specs.LineForms.{set_line, free_line, size_line, phase_line}
use Rattle.vector_files.specs.VectorFiles.{nothing_yet, with_said, vectors_in, IsChangeable, IsLineWithin}

-- what holds of the one step and is kept by the other holds of both
then_holds : {A B F : Type 0} (P : A → Type 0) (Q : B → Type 0) (found : Result A F) (next : A → Result B F)
    → IfOk found P → ((x : A) → P x → IfOk (next x) Q) → IfOk (and_then found next) Q
then_holds P Q (Ok x) next holds kept = kept x holds
then_holds P Q (Err fault) next holds kept = tt

-- a test that passes is a fault
unless_holds : {A F : Type 0} (Q : A → Type 0) (test : Bool) (fault : F) (found : Result A F)
    → IfOk found Q → IfOk (if test then Err fault else found) Q
unless_holds Q true fault found holds = tt
unless_holds Q false fault found holds = holds

named_below : (nodes : ℕ) (names : List (List ℕ × ℕ)) (name : List ℕ) → NameNodesBelow nodes names
    → IfOk (node_in names name) (λ v. v < nodes)
named_below nodes [] name below = tt
named_below nodes (x ∷ names) name below = elim (cases_Bool (bytes_eq x.0 name)) [
  | inl same ↦ rw same (below x.0 x.1 (inl refl))
  | inr other ↦ rw other (named_below nodes names name (λ n v h. below n v (inr h)))
]

size_in-size : (word : List ℕ) → IfOk (size_in word) IsSize
size_in-size word = step (bytes_eq word (codes "1")) (bytes_eq word (codes "2")) (bytes_eq word (codes "3"))
  where
    step : (one two three : Bool)
        → IfOk (ok_or (if one then Some 1 else (if two then Some 2 else (if three then Some 3 else None))) Vector) IsSize
    step true two three = (omega arith, omega arith)
    step false true three = (omega arith, omega arith)
    step false false true = (omega arith, omega arith)
    step false false false = tt

module _ (nodes : ℕ) (names : List (List ℕ × ℕ)) (below : NameNodesBelow nodes names) where
  -- what a line says, if it is not read over, fits
  abbrev Fits : Option VecLine → Type 0
  Fits said = IfSome said (IsLineWithin names nodes)

  abbrev FitsNumbered : Option (ℕ × VecLine) → Type 0
  FitsNumbered said = IfSome said (λ (line : ℕ × VecLine). IsLineWithin names nodes line.1)

  -- the lines fit that were said so far
  abbrev AllFit : Vectors → Type 0
  AllFit vectors = All (λ line. IsLineWithin names nodes line.1) vectors.lines

  unless_rail-changeable : (v : ℕ) → v < nodes → IfOk (unless_rail names v) (IsChangeable names nodes)
  unless_rail-changeable v inside = elim (cases_Bool (is_rail names v)) [
    | inl rail ↦ rw rail tt
    | inr other ↦ subst (λ (t : Bool). IfOk (if t then Err Vector else Ok v) (IsChangeable names nodes)) (sym other) (inside, other)
  ]

  changed-changeable : (name : List ℕ) → IfOk (changed_node names name) (IsChangeable names nodes)
  changed-changeable name =
      let found = node_in names name in
      unless_holds (IsChangeable names nodes) (is_rail_name name) Vector (and_then found (unless_rail names)) (
      then_holds (λ v. v < nodes) (IsChangeable names nodes) found (unless_rail names) (named_below nodes names name below)
      unless_rail-changeable
      )

  -- what a line says of a node that it changes fits
  changed-fits : (name : List ℕ) (what : ℕ → VecLine) → ((v : ℕ) → IsChangeable names nodes v → IsLineWithin names nodes (what v))
      → IfOk (and_then (changed_node names name) (λ v. Ok (what v))) (IsLineWithin names nodes)
  changed-fits name what fits =
      then_holds (IsChangeable names nodes) (IsLineWithin names nodes) (changed_node names name) (λ v. Ok (what v))
      (changed-changeable name) fits

  set-fits : (words : List (List ℕ)) → IfOk (set_line names words) (IsLineWithin names nodes)
  set-fits [] = tt
  set-fits (name ∷ []) = tt
  set-fits (name ∷ level ∷ []) = step (level_in level)
    where
      step : (found : Result Level VecFault)
          → IfOk (and_then found (λ x. and_then (changed_node names name) (λ v. Ok (Set v x)))) (IsLineWithin names nodes)
      step (Ok x) = changed-fits name (λ v. Set v x) (λ v is. is)
      step (Err fault) = tt
  set-fits (name ∷ level ∷ word ∷ words) = tt

  free-fits : (words : List (List ℕ)) → IfOk (free_line names words) (IsLineWithin names nodes)
  free-fits [] = tt
  free-fits (name ∷ []) = changed-fits name (λ v. Free v) (λ v is. is)
  free-fits (name ∷ word ∷ words) = tt

  size-fits : (words : List (List ℕ)) → IfOk (size_line names words) (IsLineWithin names nodes)
  size-fits [] = tt
  size-fits (name ∷ []) = tt
  size-fits (name ∷ size ∷ []) =
      then_holds IsSize (IsLineWithin names nodes) (size_in size) (λ k. and_then (changed_node names name) (λ v. Ok (Size v k)))
      (size_in-size size) (λ k in_range. changed-fits name (λ v. Size v k) (λ v is. (is, in_range)))
  size-fits (name ∷ size ∷ word ∷ words) = tt

  phase-fits : (words : List (List ℕ)) → IfOk (phase_line words) (IsLineWithin names nodes)
  phase-fits [] = tt
  phase-fits (word ∷ words) = tt

  asked-below : (words : List (List ℕ)) → IfOk (asked_in names words) (All (λ named. named.1 < nodes))
  asked-below [] = All-nil (λ named. named.1 < nodes)
  asked-below (name ∷ words) =
      let all = All (λ (named : List ℕ × ℕ). named.1 < nodes) in
      then_holds (λ v. v < nodes) all (node_in names name) (λ v. and_then (asked_in names words) (λ asked. Ok ((name, v) ∷ asked)))
      (named_below nodes names name below)
      (λ v one. then_holds all all (asked_in names words) (λ asked. Ok ((name, v) ∷ asked)) (asked-below words)
      (λ asked rest. All-cons (λ named. named.1 < nodes) (name, v) asked one rest))

  show-fits : (words : List (List ℕ)) → IfOk (show_line names words) (IsLineWithin names nodes)
  show-fits [] = tt
  show-fits (name ∷ words) =
      then_holds (All (λ named. named.1 < nodes)) (IsLineWithin names nodes) (asked_in names (name ∷ words)) (λ asked. Ok (Show asked))
      (asked-below (name ∷ words)) (λ asked all. all)

  command-fits : (key : List ℕ) (words : List (List ℕ)) → IfOk (command_line names key words) (IsLineWithin names nodes)
  command-fits key words =
      step (bytes_eq key (codes "set")) (bytes_eq key (codes "free")) (bytes_eq key (codes "size")) (bytes_eq key (codes "phase"))
      (bytes_eq key (codes "show"))
    where
      step : (a b c d e : Bool)
          → IfOk (if a then set_line names words else (if b then free_line names words else (if c then size_line names words
          else (if d then phase_line words else (if e then show_line names words else Err Vector))))) (IsLineWithin names nodes)
      step true b c d e = set-fits words
      step false true c d e = free-fits words
      step false false true d e = size-fits words
      step false false false true e = phase-fits words
      step false false false false true = show-fits words
      step false false false false false = tt

  words-fit : (words : List (List ℕ)) → IfOk (words_say names words) Fits
  words-fit [] = tt
  words-fit (key ∷ words) =
      then_holds (IsLineWithin names nodes) Fits (command_line names key words) (λ said. Ok (Some said)) (command-fits key words)
      (λ said fits. fits)

  line-fits : (line : List ℕ) → IfOk (line_says names line) Fits
  line-fits line = unless_comment (is_comment line)
    where
      unless_comment : (comment : Bool) → IfOk (if comment then Ok None else words_say names (words_of line)) Fits
      unless_comment true = tt
      unless_comment false = words-fit (words_of line)

  says-fits : (number : ℕ) (line : List ℕ) → IfOk (says names number line) FitsNumbered
  says-fits number line =
      then_holds Fits FitsNumbered (line_says names line) (λ said. Ok (option_map (λ (x : VecLine). (number, x)) said))
      (line-fits line) numbered
    where
      numbered : (said : Option VecLine) → Fits said → FitsNumbered (option_map (λ (x : VecLine). (number, x)) said)
      numbered None fits = tt
      numbered (Some x) fits = fits

  with_said-fits : (vectors : Vectors) (said : Option (ℕ × VecLine)) → AllFit vectors → FitsNumbered said → AllFit (with_said vectors said)
  with_said-fits vectors None all fits = all
  with_said-fits vectors (Some line) all fits = All-push (λ line. IsLineWithin names nodes line.1) vectors.lines line all fits

  saying-fits : (vectors next : Vectors) (found : Result (Option (ℕ × VecLine)) VecFault) → AllFit vectors → IfOk found FitsNumbered
      → and_then found (λ said. Ok (with_said vectors said)) ≡ Ok next → AllFit next
  saying-fits vectors next (Ok said) all fits is =
      let same : with_said vectors said ≡ next = cc in subst AllFit same (with_said-fits vectors said all fits)
  saying-fits vectors next (Err fault) all fits is = absurd (let no : ⊥ = cc in no)

  step-fits : (number : ℕ) (state : Vectors) (line : List ℕ) (next : Vectors) → AllFit state
      → saying (says names) with_said number state line ≡ Ok next → AllFit next
  step-fits number state line next all is = saying-fits state next (says names number line) all (says-fits number line) is

  pub vectors_in-within : (text : List ℕ) (vectors : Vectors) → vectors_in names text ≡ Ok vectors → AllFit vectors
  unfolding vectors_in
  vectors_in-within text vectors is =
      let step = saying (says names) with_said in
      let none = All-nil (λ (line : ℕ × VecLine). IsLineWithin names nodes line.1) in
      let read = text_state-Ok step Ok nothing_yet (lines_of text) vectors is in
      let same : read.0 ≡ vectors = (let e = read.2 in cc) in
      subst AllFit same (first_fault_or-keeps AllFit step step-fits 1 nothing_yet (lines_of text) read.0 none read.1)
