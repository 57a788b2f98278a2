use Rattle.cell_records.proofs.Common.{◌≡◌, ℕ, List, length, map, sym, subst, arith, All, RawTech, IsWellFormed, FetRec, NodeRec, HasTypesOf}
use Rattle.cell_records.proofs.Common.{IsMaterial, Place, AreTransistors, IsNearPlace, Fet, transistor_of, AreFetRecords, IsNodeBefore, IsSmallFet}
use Rattle.cell_records.proofs.Common.{AreRecordsOfFets}
use Rattle.tech_model.specs.declared.raw.TypeRec.{TypeRec}
use Rattle.cell_paint.specs.LayoutModel.RegionTiles.{IsInRegion}
use Rattle.cell_paint.specs.Paints.{Paint, layout_of, IsSoundPaint}
use Rattle.cell_paint.proofs.PaintTypes.{paint_has_types}
use Rattle.own_record_laws.specs.CellNodes.NodeRecords.{AreNodeRecords}
use Rattle.own_record_laws.proofs.CellNodes.PaintLaws.{paint_is_near}
use Rattle.cell_records.specs.steps.Exts.{IsExtOf}
use Rattle.cell_records.proofs.OwnFets.{fets_are_small, own_fets}
use Rattle.cell_records.proofs.records.cell_record.Goals as goal

-- paint has types of its technology
typed_of : (raw : RawTech) (paint : Paint) → paint.kinds ≡ raw.types → length paint.planes ≡ length raw.planes → IsWellFormed raw
    → IsSoundPaint paint.kinds (layout_of paint) → HasTypesOf raw (layout_of paint)
typed_of raw paint kinds planes well sound = let limit = well.planes_limit in
    paint_has_types raw paint (sym kinds) (omega (arith, planes, limit)) sound

-- and lies near
near_of : (raw : RawTech) (paint : Paint) → paint.kinds ≡ raw.types → length paint.planes ≡ length raw.planes → IsWellFormed raw
    → IsSoundPaint paint.kinds (layout_of paint) → (place : Place) → IsMaterial (layout_of paint) place → IsNearPlace place
near_of raw paint kinds planes well sound = let limit = well.planes_limit in
    paint_is_near raw paint (sym kinds) (omega (arith, planes, limit)) well.planes_limit well.type_planes sound

pub fet_records-requires-clause-small : goal.fet_records-requires-clause-small
fet_records-requires-clause-small c =
    let raw = c.args.tech.now in
    let paint = c.args.paint.now in
    let layout = layout_of paint in
    let well = c.raw-raw.ensures.well_formed in
    let made = c.in_ok-regions.field-0 in
    let tiles = made.regions.tiles in
    let numbers = made.numbers.items in
    let found = c.in_ok-found.found.items in
    let told = c.in_ok-regions.ensures in
    let typed = typed_of raw paint c.requires.kinds c.requires.planes well c.box_of.ensures.sound in
    let near = near_of raw paint c.requires.kinds c.requires.planes well c.box_of.ensures.sound in
    let are : AreTransistors raw layout (IsInRegion tiles) (map (transistor_of raw) found) = c.in_ok-found.ensures.transistors layout told.regions typed in
    let small : All (IsSmallFet raw numbers) found =
    fets_are_small raw layout c.args.labels.now tiles made.regions.count made.nodes numbers well typed near told.regions told.nodes found are in
    subst (λ (v : RawTech). All (IsSmallFet v c.as_slice.result.now) c.as_slice-2.result.now) (sym c.raw-raw.ensures.value)
    (subst (λ (v : List ℕ). All (IsSmallFet raw v) c.as_slice-2.result.now) (sym c.as_slice.ensures.value)
    (subst (λ (v : List Fet). All (IsSmallFet raw numbers) v) (sym c.as_slice-2.ensures.value) small))

pub returns-clause-record : goal.returns-clause-record
returns-clause-record c =
    let raw = c.args.tech.now in
    let paint = c.args.paint.now in
    let layout = layout_of paint in
    let labels = c.args.labels.now in
    let well = c.raw-raw.ensures.well_formed in
    let made = c.in_ok-regions.field-0 in
    let tiles = made.regions.tiles in
    let numbers = made.numbers.items in
    let found = c.in_ok-found.found.items in
    let fets = c.in_ok-made.made.items in
    let told = c.in_ok-regions.ensures in
    let typed = typed_of raw paint c.requires.kinds c.requires.planes well c.box_of.ensures.sound in
    let near = near_of raw paint c.requires.kinds c.requires.planes well c.box_of.ensures.sound in
    let are : AreTransistors raw layout (IsInRegion tiles) (map (transistor_of raw) found) = c.in_ok-found.ensures.transistors layout told.regions typed in
    let records : AreRecordsOfFets raw made.nodes numbers found fets =
    rw (c.raw-raw.ensures.value, c.items.ensures, c.as_slice.ensures.value, c.as_slice-2.ensures.value) at c.in_ok-made.ensures in
    let ext : IsExtOf raw c.args.name.now made.nodes fets c.in_ok-ext.ext = rw c.raw-raw.ensures.value at c.in_ok-ext.ensures in
    record {
      cell = ext.cell;
      tech = ext.tech;
      classes = ext.classes;
      uses = ext.uses;
      nodes = subst (λ (v : List NodeRec). AreNodeRecords raw layout labels v) (sym ext.nodes_are) told.nodes.records;
      fets = subst (λ (v : List FetRec). AreFetRecords raw layout labels (IsNodeBefore raw layout labels) v) (sym ext.fets_are)
          (own_fets raw layout labels tiles made.regions.count made.nodes numbers well typed near told.regions told.nodes found are fets records);
      merges = ext.merges;
    }

pub returns-clause-lawful : goal.returns-clause-lawful
returns-clause-lawful c =
    let raw = c.args.tech.now in
    let paint = c.args.paint.now in
    let well = c.raw-raw.ensures.well_formed in
    let sound = c.box_of.ensures.sound in
    c.own_records_are_lawful.ensures raw (layout_of paint) c.args.labels.now c.args.name.now c.in_ok-ext.ext well c.raw-raw.ensures.rules
    (subst (λ (kinds : List TypeRec). IsSoundPaint kinds (layout_of paint)) c.requires.kinds sound)
    (typed_of raw paint c.requires.kinds c.requires.planes well sound) c.requires.labels (returns-clause-record c)
