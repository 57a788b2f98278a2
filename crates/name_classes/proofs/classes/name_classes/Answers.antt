use Rattle.name_classes.proofs.Common.{ℕ, List, length, sym, ◌∙◌, ap, subst, TreeElement, ElementTree, elements_in, RecordLinks, AreLabels}
use Rattle.name_classes.proofs.Common.{AreFirsts, AreJoined}
use Rattle.name_classes.proofs.SeenLaws.{all_sound}
use Rattle.name_classes.proofs.ClassLaws.{labels_made, firsts_long, ends_made}
use Rattle.name_classes.proofs.classes.name_classes.Goals as goal

pub returns-clause-sound : goal.returns-clause-sound
returns-clause-sound c = all_sound c.args.names.now c.requires.names c.in_ok-all.all.items c.in_ok-all.ensures.ok

pub returns-clause-classes : goal.returns-clause-classes
returns-clause-classes c =
    let names = c.args.names.now in
    let all = c.in_ok-all.all.items in
    let marks = c.in_ok-labels.field-0.labels.items in
    let count = c.in_ok-labels.field-0.count in
    let made = c.in_ok-labels.ensures in
    let links = c.in_ok-all.ensures.ok in
    let joined = subst (λ (l : List RecordLinks). AreJoined names l (length c.items.result.now) marks) c.as_slice.ensures.value made.joined in
    let ends = subst (λ (l : List RecordLinks). AreFirsts l c.in_ok-all_firsts.field-0) c.as_slice-2.ensures.value c.in_ok-all_firsts.ensures in
    let elements = c.items.ensures ∙ ap (λ (tree : ElementTree). tree.elements) c.requires.tree in
    let so_many = ap (λ (l : List TreeElement). length l) (sym elements) in record {
      labels = λ list is_list.
          subst (λ (labels : List ℕ). AreLabels (elements_in names) list labels count) (sym c.of.ensures)
          (labels_made names c.requires.names all links list is_list (length c.items.result.now) so_many marks joined count made.long made.numbered);
      long = firsts_long names c.requires.names all links c.in_ok-all_firsts.field-0 ends;
      ends = ends_made names c.requires.names all links c.in_ok-all_firsts.field-0 ends;
    }
