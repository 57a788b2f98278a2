-- The rectangles of one list that a line crosses, by where they end along it.
use Rattle.std.specs.Prelude.{◌≡◌, ℕ, ℤ, ◌≤ℤ◌, ◌<ℤ◌, true, false, Option, Some, None, List, ◌++◌, map}
use Rattle.geo_core.specs.Areas.{IsSmall}
use Rattle.geo_core.specs.FiniteSets.Lists.{Lists}
use Rattle.rect_contacts.specs.declared.actives.Active.{Active}
use Rattle.rect_contacts.specs.declared.events.Event.{Event}
use Rattle.rect_contacts.specs.steps.Events.{pair_of}

-- the rectangle that ends at a column, if there is one
abbrev pub Row : Type 0
Row = ℤ → Option Active

-- Each of them has columns, one ends before the next begins, and none stands there twice.
pub record AreActives (row : Row) : Type 0 where
  pub long : (to : ℤ) (active : Active) → row to ≡ Some active → active.from <ℤ to
  pub small : (to : ℤ) (active : Active) → row to ≡ Some active → IsSmall to
  pub apart : (a b : ℤ) (first second : Active) → row a ≡ Some first → row b ≡ Some second → a <ℤ b → a ≤ℤ second.from
  pub once : (a b : ℤ) (first second : Active) → row a ≡ Some first → row b ≡ Some second → first.owner ≡ second.owner → a ≡ b

-- the first of them that ends past x
pub record IsFirstPast (row : Row) (x to : ℤ) (active : Active) : Type 0 where
  pub there : row to ≡ Some active
  pub past : x <ℤ to
  pub first : (a : ℤ) (other : Active) → row a ≡ Some other → x <ℤ a → to ≤ℤ a

-- The rectangle of the row with this place has a column in common with that of the event.
pub record IsMet (event : Event) (row : Row) (owner : ℕ) : Type 0 where
  pub to : ℤ
  pub active : Active
  pub there : row to ≡ Some active
  pub is : active.owner ≡ owner
  pub ends : event.from <ℤ to
  pub begins : active.from <ℤ event.to

-- the pairs of the event's rectangle with those of the row that it meets are added at the end of a list
pub record AddsMet (event : Event) (row : Row) (before after : List (ℕ × ℕ)) : Type 0 where
  pub owners : List ℕ
  pub met : Lists (IsMet event row) owners
  pub added : after ≡ before ++ map (pair_of event) owners

-- the row has one rectangle more, which ends at this column
pub record IsWith (to : ℤ) (active : Active) (old new : Row) : Type 0 where
  pub there : new to ≡ Some active
  pub others : (a : ℤ) → (a ≡ to → ⊥) → new a ≡ old a

-- the row is without the rectangle that ends at this column
pub record IsWithout (to : ℤ) (old new : Row) : Type 0 where
  pub gone : new to ≡ None
  pub others : (a : ℤ) → (a ≡ to → ⊥) → new a ≡ old a

-- A rectangle that begins is paired with those of the other list that it meets, and comes to its own list's row. One that ends leaves it.
pub record IsTurned (event : Event) (old new others : Row) (before after : List (ℕ × ℕ)) : Type 0 where
  pub met : event.begins ≡ true → AddsMet event others before after
  pub comes : event.begins ≡ true → IsWith event.to (record { from = event.from; owner = event.owner }) old new
  pub no_more : event.begins ≡ false → after ≡ before
  pub leaves : event.begins ≡ false → IsWithout event.to old new
