use Rattle.cif_reading.proofs.Common.{◌≡◌, length, sym, ◌∙◌, Some, None, position, bytes_eq}
use Rattle.cif_reading.proofs.PlaceLaws.{position-absent, position-found, with_layer-new, with_layer-there}
use Rattle.cif_reading.proofs.layers.LayerList.place.Goals as goal

pub returns-in-Some-clause-layers : goal.returns-in-Some-clause-layers
returns-in-Some-clause-layers c =
    let name = c.args.name.now in
    let layers = c.args.self.now in
    let found : position (bytes_eq name) layers ≡ Some c.in-Some.place = cc in
    with_layer-there name layers (position-found (bytes_eq name) layers c.in-Some.place found).0

pub push-requires : goal.push-requires
push-requires c =
    let name = c.args.name.now in
    let layers = c.args.self.now in
    let found : position (bytes_eq name) layers ≡ None = cc in
    (position-absent (bytes_eq name) layers found).0

pub returns-in_ok-push-in-None-clause-place : goal.returns-in_ok-push-in-None-clause-place
returns-in_ok-push-in-None-clause-place c =
    let name = c.args.name.now in
    let layers = c.args.self.now in
    let found : position (bytes_eq name) layers ≡ None = cc in
    let count : c.len-place.result ≡ length layers = cc in
    count ∙ (position-absent (bytes_eq name) layers found).1

pub returns-in_ok-push-in-None-clause-layers : goal.returns-in_ok-push-in-None-clause-layers
returns-in_ok-push-in-None-clause-layers c =
    let name = c.args.name.now in
    let layers = c.args.self.now in
    let found : position (bytes_eq name) layers ≡ None = cc in
    c.in_ok-push-in-None.ensures ∙ sym (with_layer-new name layers (position-absent (bytes_eq name) layers found).0)
