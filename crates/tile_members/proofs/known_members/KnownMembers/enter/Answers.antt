use Rattle.tile_members.proofs.Common.{◌≡◌, ◌++◌, ◌∷◌, [], ℕ, length, sym, ap, ◌∙◌, position, bytes_eq, IfOk-weaker, AddsName}
use Rattle.tile_members.proofs.NewNames.{adds_found, adds_new, not_found}
use Rattle.tile_members.proofs.known_members.KnownMembers.enter.Goals as goal

pub returns-in-Some-clause-added : goal.returns-in-Some-clause-added
returns-in-Some-clause-added c =
    adds_found c.args.self.now.names.items c.args.name.now c.in-Some.number
    (ap (position (bytes_eq c.args.name.now)) (sym c.requires) ∙ sym c.in-Some.ensures)

pub add_name-requires-clause-new : goal.add_name-requires-clause-new
add_name-requires-clause-new c = not_found c.args.self.now.index c.args.name.now (sym c.in-None.ensures)

pub returns-in-None-clause-added : goal.returns-in-None-clause-added
returns-in-None-clause-added c =
    IfOk-weaker c.add_name.result
    (λ (number : ℕ). (c.add_name.new.self.names.items ≡ c.args.self.now.names.items ++ c.args.name.now ∷ []) × (number ≡ length c.args.self.now.names.items))
    (AddsName c.args.self.now.names.items c.add_name.new.self.names.items c.args.name.now)
    (λ number is. adds_new c.args.self.now.names.items c.add_name.new.self.names.items c.args.name.now number is.0 is.1) c.add_name.ensures.added
