-- What most files of proofs name of what stands below, and of the definitions of this crate.
pub use Rattle.std.proofs.Common.{◌≡◌, ℕ, zero, suc, ◌<◌, ◌≤◌, List, [], ◌∷◌, ◌++◌, length, get_or, set, replicate, Some, slice_get, refl, ap, arith}
pub use Rattle.std.proofs.Common.{◌+◌, sym, ◌∙◌, length-set, take, ◌-◌, ◌%◌, length-append, map, vec_capacity}
pub use Rattle.std.proofs.lemmas.List.{length-replicate, length_push, map_push, length-map, get_or-set_same, get_or_past}
pub use Rattle.std.proofs.lemmas.Option.{slice_get_within, get_or_from_slice_get, slice_get-get_or}
pub use Rattle.std.specs.Prelude.{None}
pub use Rattle.std.specs.Mem.{type_size}
pub use Rattle.std.proofs.mem.Param.{El, R, el_x, elτ, args}
pub use Rattle.std.proofs.RcSteps.{Good, word, word-Good}
pub use Rattle.std.proofs.VecSteps.Shapes.{after}
pub use Rattle.std.proofs.ptr.Rows.{times_below, one_below}
pub use Rattle.tile_arena.specs.declared.limits.TheConstants.{BLOCK_SIZE}
pub use Rattle.tile_arena.specs.Places.{HasItem}
pub use Rattle.tile_arena.specs.declared.slots.Slot.{Slot}
pub use Rattle.tile_arena.specs.declared.slots.Slot.TheVariants.{Live, Empty}
pub use Rattle.tile_arena.specs.Slots.{value_of}
pub use Rattle.tile_arena.specs.PlaceOwnership.{place, row_of, place_lent, row_lent, places_own, places_lend}
