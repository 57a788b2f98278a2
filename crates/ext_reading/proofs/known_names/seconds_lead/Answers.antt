use Rattle.ext_reading.proofs.Common.{◌≡◌, ◌∙◌, sym, subst, Option, names_in, ElementRange, all_lead, second_of, count_of}
use Rattle.std.proofs.Common.{w64}
use Rattle.std.proofs.lemmas.Int.{to_z-of_z}
use Rattle.geo_core.proofs.ElementLaws.{kept}
use Rattle.ext_reading.proofs.RowPaths.{row_known-same, range_leads}
use Rattle.ext_reading.proofs.UseNames.{wider}
use Rattle.ext_reading.proofs.known_names.seconds_lead.Goals as goal

pub returns-in-Some : goal.returns-in-Some
returns-in-Some c =
    let elements = names_in c.args.elements.now in
    let range = c.in-Some.range in
    let is = c.requires range c.in-Some.is in
    let known = row_known-same elements c.has_row.result range.id c.bytes.result.now range.lo (kept range.lo) range.hi (kept range.hi) range.j (kept range.j)
    c.has_row.ensures c.bytes.ensures (to_z-of_z w64 range.lo (wider range.lo is.lo)) (to_z-of_z w64 range.hi (wider range.hi is.hi))
    (to_z-of_z w64 range.j (wider range.j is.j)) in
    subst (λ (r : Option ElementRange). c.has_row.result ≡ all_lead elements c.args.names.now (second_of c.args.second.now r) (count_of r)) (sym c.in-Some.is)
    (known ∙ sym (range_leads elements c.args.names.now c.args.second.now range is))
