-- What comes of the vectors of a stack is one, whichever list of the names they are made with.
use Rattle.uniqueness.proofs.Common.{◌≡◌, ℕ, zero, suc, Bool, true, false, List, [], ◌∷◌, ◌++◌, refl, sym, ap, ◌∙◌, subst, Option, Some, None}
use Rattle.uniqueness.proofs.Common.{All-head, All-tail, Level, NameNodesBelow, IsSound, Network, Vectors, node_named, VecReply, name_stands}
use Rattle.uniqueness.proofs.Common.{Outcome, NameAlike}
use Rattle.std.specs.Prelude.{All}
use Rattle.std.specs.List.{count_by}
use Rattle.std.specs.Option.{option_map_or}
use Rattle.std.proofs.lemmas.List.Elements.{All-append, All-cons, All-map, All-nil}
use Rattle.switch_net.specs.declared.switches.Level.TheVariants.{One, Zero}
use Rattle.vector_runs.specs.VectorFiles.declared.files.VecLine.{VecLine}
use Rattle.vector_runs.specs.VectorFiles.declared.files.VecLine.TheVariants.{Phase, Set}
use Rattle.vector_runs.specs.VectorFiles.VectorFiles.{IsLineWithin}
use Rattle.vector_runs.specs.Runs.{EndsRun, LinesRun, Standing, begun_in, lines_of, phase_reply}
use Rattle.vector_runs.proofs.LineOutcomes.{IsSoundAt, line_sound, same_line, same_lines}
use Rattle.vector_runs.proofs.Starts.{same_starts}
use Rattle.network_commands.specs.StackRuns.Outcomes.{IsOutcome, is_one, is_zero}
use Rattle.network_commands.specs.StackRuns.StackVectors.{column_lines, column_name, lines_below, row_lines, row_name, set_named, stack_vectors}
use Rattle.uniqueness.proofs.SameReplies.{begins_alike}

-- ---- the vectors

module _ (names others : List (List ℕ × ℕ)) (same : (name : List ℕ) → node_named names name ≡ node_named others name) where
  -- the line that sets the node of a name is the same for both lists
  set_same : (level : Level) (name : List ℕ) → set_named names level name ≡ set_named others level name
  set_same level name = ap (λ (found : Option ℕ). option_map_or (λ v. (0, Set v level) ∷ []) found []) (same name)

  below_same : (f g : ℕ → List (ℕ × VecLine)) → ((j : ℕ) → f j ≡ g j) → (n : ℕ) → lines_below f n ≡ lines_below g n
  below_same f g alike zero = refl
  below_same f g alike (suc n) =
      ap (λ (lines : List (ℕ × VecLine)). lines ++ f n) (below_same f g alike n) ∙ ap (λ (lines : List (ℕ × VecLine)). lines_below g n ++ lines) (alike n)

  -- and so are all of them
  pub vectors_same : (n : ℕ) → stack_vectors names n ≡ stack_vectors others n
  vectors_same n =
      let rows : row_lines names n ≡ row_lines others n = below_same _ _ (λ j. set_same One (row_name j)) n in
      let columns : column_lines names n ≡ column_lines others n = below_same _ _ (λ i. set_same Zero (column_name i)) n in
      let made : List (ℕ × VecLine) → List (ℕ × VecLine) → Vectors = λ a b. record { lines = a ++ b ++ (0, Phase) ∷ [] } in
      ap (λ (a : List (ℕ × VecLine)). made a (column_lines names n)) rows ∙ ap (λ (b : List (ℕ × VecLine)). made (row_lines others n) b) columns

-- the line fits a network of so many nodes, without names
abbrev Fits : ℕ → ℕ × VecLine → Type 0
Fits nodes line = IsLineWithin [] nodes line.1

module _ (nodes : ℕ) (names : List (List ℕ × ℕ)) (below : NameNodesBelow nodes names) where
  -- the line that sets the node of a name fits
  set_fits : (level : Level) (name : List ℕ) → All (Fits nodes) (set_named names level name)
  set_fits level name = step (node_named names name) refl
    where
      step : (found : Option ℕ) → node_named names name ≡ found → All (Fits nodes) (option_map_or (λ v. (0, Set v level) ∷ []) found [])
      step None is = All-nil (Fits nodes)
      step (Some v) is = All-cons (Fits nodes) (0, Set v level) [] (below name v (name_stands names name v is), refl) (All-nil (Fits nodes))

  below_fits : (f : ℕ → List (ℕ × VecLine)) → ((j : ℕ) → All (Fits nodes) (f j)) → (n : ℕ) → All (Fits nodes) (lines_below f n)
  below_fits f fits zero = All-nil (Fits nodes)
  below_fits f fits (suc n) = All-append (Fits nodes) (lines_below f n) (f n) (below_fits f fits n) (fits n)

  -- and so do all of them
  vectors_fit : (n : ℕ) → All (IsLineWithin [] nodes) (lines_of (stack_vectors names n))
  vectors_fit n =
      All-map (IsLineWithin [] nodes) (λ (line : ℕ × VecLine). line.1) (stack_vectors names n).lines
      (All-append (Fits nodes) (row_lines names n ++ column_lines names n) ((0, Phase) ∷ [])
      (All-append (Fits nodes) (row_lines names n) (column_lines names n)
      (below_fits (λ j. set_named names One (row_name j)) (λ j. set_fits One (row_name j)) n)
      (below_fits (λ i. set_named names Zero (column_name i)) (λ i. set_fits Zero (column_name i)) n))
      (All-cons (Fits nodes) (0, Phase) [] tt (All-nil (Fits nodes))))

-- ---- their run

-- lines that fit end in one standing
same_ends : (nodes budget : ℕ) (lines : List VecLine) (old new other : Standing) (told others : List VecReply) → All (IsLineWithin [] nodes) lines
    → IsSoundAt nodes old → LinesRun budget old lines new told → LinesRun budget old lines other others → new ≡ other
same_ends nodes budget [] old new other told others within at a b = a.0 ∙ sym b.0
same_ends nodes budget (line ∷ lines) old new other told others within at a b =
    let here = All-head (IsLineWithin [] nodes) line lines within in
    let first = line_sound [] nodes budget old a.between line a.first here at a.runs in
    let same = same_line budget old a.between b.between line a.first b.first at.sound (at.one_state ∙ sym at.same_nodes) a.runs b.runs in
    let rest = subst (λ (mid : Standing). LinesRun budget mid lines other b.others) (sym same.0) b.rest in
    same_ends nodes budget lines a.between new other a.others b.others (All-tail (IsLineWithin [] nodes) line lines within) first a.rest rest

-- what is told of a phase tells whether it settled and after how many steps
one_phase : (budget : ℕ) (settled also : Bool) (steps more : ℕ) → phase_reply 1 settled steps ∷ [] ≡ phase_reply 1 also more ∷ []
    → (settled ≡ false → steps ≡ budget) → (also ≡ false → more ≡ budget) → (settled ≡ also) × (steps ≡ more)
one_phase budget true true steps more same p q = (refl, (let is : steps ≡ more = cc in is))
one_phase budget true false steps more same p q = absurd (let no : ⊥ = cc in no)
one_phase budget false true steps more same p q = absurd (let no : ⊥ = cc in no)
one_phase budget false false steps more same p q = (refl, p refl ∙ sym (q refl))

module _ (net : Network) (names : List (List ℕ × ℕ)) (budget n : ℕ) (sound : IsSound net) (below : NameNodesBelow net.nodes names) where
  -- runs of the vectors reply the same and leave one list of states
  same_end : (told others : List VecReply) (states more : List Level) → EndsRun net names budget (stack_vectors names n) told states
      → EndsRun net names budget (stack_vectors names n) others more → (told ≡ others) × (states ≡ more)
  same_end told others states more p q =
      let lines = lines_of (stack_vectors names n) in
      let fit = vectors_fit net.nodes names below n in
      let start = same_starts net names q.run.start p.run.start q.run.starts p.run.starts in
      let runs = subst (λ (from : List Level). LinesRun budget (begun_in net from) lines q.run.last others) start q.run.runs in
      let at : IsSoundAt net.nodes (begun_in net p.run.start) = record { sound = sound; same_nodes = refl; one_state = p.run.starts.one_state } in
      let last = same_ends net.nodes budget lines (begun_in net p.run.start) p.run.last q.run.last told others fit at p.run.runs runs in (
        same_lines [] net.nodes budget lines (begun_in net p.run.start) p.run.last q.run.last told others fit at p.run.runs runs,
        p.states_are ∙ ap (λ (end : Standing). end.states) last ∙ sym q.states_are,
      )

  -- so what comes of them is one
  pub one_outcome : (a b : Outcome) → IsOutcome net names budget n a → IsOutcome net names budget n b → a ≡ b
  one_outcome a b p q =
      let end = same_end _ _ p.states q.states p.run q.run in
      let phase = one_phase budget a.settled b.settled a.steps b.steps end.0 p.unsettled q.unsettled in
      let zeros = p.zeros ∙ ap (count_by is_zero) end.1 ∙ sym q.zeros in
      let ones = p.ones ∙ ap (count_by is_one) end.1 ∙ sym q.ones in
      (λ i. record { settled = phase.0 i; steps = phase.1 i; zeros = zeros i; ones = ones i })

-- what comes of them with the names of the one list comes of them with those of the other
pub same_outcome : (names others : List (List ℕ × ℕ)) → NameAlike names others → ((name : List ℕ) → node_named names name ≡ node_named others name)
    → (net : Network) (budget n : ℕ) (outcome : Outcome) → IsOutcome net others budget n outcome → IsOutcome net names budget n outcome
same_outcome names others alike same net budget n outcome is =
    let told = phase_reply 1 outcome.settled outcome.steps ∷ [] in
    let vectors = vectors_same names others same n in
    let ends = subst (λ (all : Vectors). EndsRun net others budget all told is.states) (sym vectors) is.run in
    record {
      states = is.states;
      run = record {
        run = record {
          start = ends.run.start;
          starts = begins_alike names others alike net ends.run.start ends.run.starts;
          last = ends.run.last;
          runs = ends.run.runs;
        };
        states_are = ends.states_are;
      };
      unsettled = is.unsettled;
      zeros = is.zeros;
      ones = is.ones;
    }
