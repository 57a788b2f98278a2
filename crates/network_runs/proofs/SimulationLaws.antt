-- The lines of vectors, and what makes them those that are meant.
use Rattle.network_runs.proofs.Common.{◌≡◌, ℕ, List, [], ◌∷◌, map, refl, sym, subst, ReportLine, SimFile, Network, Settled, Unsettled, IsOfInside}
use Rattle.network_runs.proofs.Common.{IsNetOf, TellsVectors, vector_line, no_lines_inside}
use Rattle.vector_runs.specs.declared.replies.VecReply.{VecReply}
use Rattle.vector_runs.specs.declared.replies.VecReply.TheVariants.{Shown}
use Rattle.network_runs.specs.Simulations.{TellsNet}

-- a line of vectors, and what is behind it
vector_inside : (reply : VecReply) (lines : List ReportLine) → IsOfInside lines → IsOfInside (vector_line reply ∷ lines)
vector_inside (Settled phase steps) lines rest = record { present = rest.present; fits = rest.fits }
vector_inside (Unsettled phase) lines rest = record { present = rest.present; fits = rest.fits }
vector_inside (Shown name level) lines rest = record { present = rest.present; fits = rest.fits }

vector_lines_inside : (replies : List VecReply) → IsOfInside (map vector_line replies)
vector_lines_inside [] = no_lines_inside
vector_lines_inside (reply ∷ replies) = vector_inside reply (map vector_line replies) (vector_lines_inside replies)

-- the lines of what vectors reply
pub run_inside : (replies : List VecReply) (lines : List ReportLine) → lines ≡ map vector_line replies → IsOfInside lines
run_inside replies lines are = subst (λ (all : List ReportLine). IsOfInside all) (sym are) (vector_lines_inside replies)

-- what answers a vector file on a network of sim records
pub tells_net : (budget number : ℕ) (sim : SimFile) (text : List ℕ) (net : Network) (names : List (List ℕ × ℕ)) (lines : List ReportLine)
    → IsNetOf sim net names → TellsVectors budget number text net names lines → TellsNet budget number sim text lines
tells_net budget number sim text net names lines is tells = record { net = net; names = names; is_net = is; tells = tells }
