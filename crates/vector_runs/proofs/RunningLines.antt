-- Runs that grow by a line.
use Rattle.vector_runs.proofs.Common.{◌≡◌, ℕ, ◌<◌, ◌+◌, List, [], ◌∷◌, ◌++◌, refl, sym, ap, subst, ◌∙◌, length, map, get_or, take, append_assoc}
use Rattle.vector_runs.proofs.Common.{append-nil, take_more, Level, Network, AreStarts, VecLine, Vectors, VecReply, LineRuns, LinesRun, Standing}
use Rattle.std.proofs.lemmas.List.{map-append}
use Rattle.vector_runs.specs.Running.{RanLine, RanLines}
use Rattle.vector_runs.specs.Runs.{EndsRun, begun_in}

-- lines are run, and then one more
one_more : (budget : ℕ) (lines : List VecLine) (line : VecLine) (old mid new : Standing) (told more : List VecReply) →
    LinesRun budget old lines mid told → LineRuns budget mid line new more → LinesRun budget old (lines ++ line ∷ []) new (told ++ more)
one_more budget [] line old mid new told more runs last = record {
  between = new;
  first = more;
  others = [];
  runs = subst (λ (at : Standing). LineRuns budget at line new more) runs.0 last;
  rest = (refl, refl);
  replied = ap (λ (told : List VecReply). told ++ more) runs.1 ∙ sym (append-nil more);
}
one_more budget (first ∷ lines) line old mid new told more runs last = record {
  between = runs.between;
  first = runs.first;
  others = runs.others ++ more;
  runs = runs.runs;
  rest = one_more budget lines line runs.between mid new runs.others more runs.rest last;
  replied = ap (λ (told : List VecReply). told ++ more) runs.replied ∙ append_assoc runs.first runs.others more;
}

-- the same, with the replies behind those from before
pub ran_more : (budget : ℕ) (lines : List VecLine) (line : VecLine) (old mid new : Standing) (before between after : List VecReply) →
    RanLines budget old lines mid before between → RanLine budget mid line new between after →
    RanLines budget old (lines ++ line ∷ []) new before after
ran_more budget lines line old mid new before between after ran last = record {
  told = ran.told ++ last.told;
  runs = one_more budget lines line old mid new ran.told last.told ran.runs last.runs;
  added = last.added ∙ ap (λ (replies : List VecReply). replies ++ last.told) ran.added ∙ append_assoc before ran.told last.told;
}

-- the same along numbered lines
pub ran_next : (budget : ℕ) (lines : List (ℕ × VecLine)) (k : ℕ) (line : ℕ × VecLine) (old mid new : Standing)
    (before between after : List VecReply) →
    k < length lines → line ≡ get_or lines k line →
    RanLines budget old (map (λ line. line.1) (take k lines)) mid before between → RanLine budget mid line.1 new between after →
    RanLines budget old (map (λ line. line.1) (take (k + 1) lines)) new before after
ran_next budget lines k line old mid new before between after lt is ran last =
    let said : ℕ × VecLine → VecLine = λ line. line.1 in
    let front : map said (take (k + 1) lines) ≡ map said (take k lines) ++ line.1 ∷ [] =
    ap (map said) (take_more lines k line lt) ∙ map-append said (take k lines) (get_or lines k line ∷ [])
    ∙ ap (λ (line : ℕ × VecLine). map said (take k lines) ++ said line ∷ []) (sym is) in
    subst (λ (lines : List VecLine). RanLines budget old lines new before after) (sym front)
    (ran_more budget (map said (take k lines)) line.1 old mid new before between after ran last)

-- lines that were run from the states in which a network begins are a run of their vectors, and leave the states that they leave
pub run_told : (net : Network) (names : List (List ℕ × ℕ)) (budget : ℕ) (vectors : Vectors) (start : List Level) (read : List (ℕ × VecLine))
    (last : Standing) (before after : List VecReply) → AreStarts net names start → read ≡ vectors.lines →
    RanLines budget (begun_in net start) (map (λ line. line.1) read) last before after →
    (told : List VecReply) × EndsRun net names budget vectors told last.states × (after ≡ before ++ told)
run_told net names budget vectors start read last before after starts same ran = (
  ran.told,
  record {
    run = record {
      start = start;
      starts = starts;
      last = last;
      runs = subst (λ (lines : List (ℕ × VecLine)). LinesRun budget (begun_in net start) (map (λ line. line.1) lines) last ran.told) same
          ran.runs;
    };
    states_are = refl;
  },
  ran.added,
)
