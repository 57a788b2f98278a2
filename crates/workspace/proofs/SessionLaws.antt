-- Sessions with a technology and without one.
use Rattle.workspace.proofs.Common.{◌≡◌, Option, None, Some, ap, IfSome, seen, Edited}
use Rattle.std.specs.Option.{option_map}
use Rattle.ext_cache.specs.CellLibrary.LawfulViews.{IsSoundView}
use Rattle.workspace.specs.declared.cells.LayoutSession.{LayoutSession}
use Rattle.workspace.specs.KeptSessions.{KeepsSoundLibrary, SeesSoundLibrary, edited_state, state_of}

-- the state of a session without one
pub state_of_nothing : (session : LayoutSession) → session.edited ≡ None → state_of session ≡ None
state_of_nothing session is = ap (λ (e : Option Edited). option_map edited_state e) is

-- a sound library that is edited is seen in the state
edited_is_seen : (edited : Option Edited) → IfSome edited (λ one. IsSoundView (seen one.library)) → SeesSoundLibrary (option_map edited_state edited)
edited_is_seen None sound = sound
edited_is_seen (Some edited) sound = sound

pub library_is_seen : (session : LayoutSession) → KeepsSoundLibrary session → SeesSoundLibrary (state_of session)
library_is_seen session sound = edited_is_seen session.edited sound
