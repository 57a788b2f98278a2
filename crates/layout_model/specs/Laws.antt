-- Laws of layouts, as statements.
use Rattle.std.specs.Prelude.{◌≡◌, ℕ, Bool, List}
use Rattle.layout_model.specs.Layouts.{Layout}
use Rattle.layout_model.specs.Technologies.{Technology}
use Rattle.layout_model.specs.Nodes.{Node, AreNodes}

-- Each type connects to those that connect to it.
abbrev pub ConnectsBothWays : (ℕ → ℕ → Bool) → Type 0
ConnectsBothWays connects = (a b : ℕ) → connects a b ≡ connects b a

-- A layout has one list of nodes.
abbrev pub HasOneNodeList : Type 0
HasOneNodeList =
    (technology : Technology) (layout : Layout) (xs ys : List Node) → ConnectsBothWays technology.connects
    → AreNodes technology layout xs → AreNodes technology layout ys → xs ≡ ys
