-- The labels of the classes that the links make are the numbers of regions, and the contacts stay those of the tiles.
use Rattle.flood_nodes.proofs.Common.{◌≡◌, ◌<◌, List, ℕ, length, sym, subst, arith, All, Divides, IsPair, AreRenumbered, AreSpread}
use Rattle.tech_model.specs.Types.{connects}
use Rattle.flood_nodes.proofs.Renumbering.{join_within, numbered_contacts, regions_from_classes, renumbered_sound, contacts_told}
use Rattle.flood_nodes.proofs.flooding.regions_of_tiles.Goals as goal

pub classes-requires : goal.classes-requires
classes-requires c =
    subst (λ (v : List (ℕ × ℕ)). All (λ (pair : ℕ × ℕ). (pair.0 < length c.args.tiles.now) × (pair.1 < length c.args.tiles.now)) v)
    (sym c.as_slice-2.ensures.value)
    (join_within (connects c.args.tech.now) c.args.tiles.now c.in_ok-links.links.items c.in_ok-links.ensures)

pub invariant_of-result : goal.invariant_of-result
invariant_of-result c =
    let tiles = c.args.tiles.now in
    let labels = c.in_ok-labels.field-0.labels in
    let numbered = c.in_ok-numbered.numbered.items in
    let contacts = c.in_ok-contacts.contacts.items in
    let ok = labels.ok in
    let len = c.in_ok-labels.ensures.len in
    let long : length labels.items ≡ length tiles = omega (arith, ok, len) in
    let spread : AreSpread tiles = record { proper = c.requires.proper; near = c.requires.near; apart = c.requires.apart } in
    let renumbered : AreRenumbered tiles labels.items numbered = subst (λ (v : List ℕ). AreRenumbered tiles v numbered) c.as_slice-3.ensures.value
    c.in_ok-numbered.ensures in
    record {
      sound = rw c.of.ensures (renumbered_sound tiles numbered labels.items c.in_ok-labels.field-0.count spread long c.in_ok-labels.ensures.numbered
          renumbered);
      shared = rw (c.of.ensures, c.of-2.ensures) (contacts_told numbered contacts
          (numbered_contacts tiles labels.items numbered renumbered long contacts c.in_ok-contacts.ensures));
    }

pub returns-clause-regions : goal.returns-clause-regions
returns-clause-regions c = λ layout are.
    let tiles = c.args.tiles.now in
    let labels = c.in_ok-labels.field-0.labels in
    let numbered = c.in_ok-numbered.numbered.items in
    let links = c.in_ok-links.links.items in
    let ok = labels.ok in
    let len = c.in_ok-labels.ensures.len in
    let long : length labels.items ≡ length tiles = omega (arith, ok, len) in
    let renumbered : AreRenumbered tiles labels.items numbered = subst (λ (v : List ℕ). AreRenumbered tiles v numbered) c.as_slice-3.ensures.value
    c.in_ok-numbered.ensures in
    let divides : Divides labels.items (IsPair links) = subst (λ (v : List (ℕ × ℕ)). Divides labels.items (IsPair v)) c.as_slice-2.ensures.value
    c.in_ok-labels.ensures.divides in
    rw c.of.ensures (regions_from_classes c.args.tech.now layout tiles numbered labels.items c.in_ok-labels.field-0.count links
    are c.requires.typed c.in_ok-links.ensures long divides c.in_ok-labels.ensures.numbered renumbered)
