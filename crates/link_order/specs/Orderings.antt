-- An ordering that goes on in steps: what a step of it comes to, and what it ends with (this project's own rule).
use Rattle.std.specs.Prelude.{◌≡◌, ℕ, ◌+◌, ◌/◌, ◌<◌, length}
use Rattle.link_order.specs.Orders.{IsOrder, Order}
use Rattle.link_order.specs.declared.ordering.Ordering.{Ordering}

-- how many links are put in order
abbrev pub links_of : Ordering → ℕ
links_of ordering = length ordering.placing.order.links

-- how many steps an ordering takes at most before its last one
abbrev pub left_of : Ordering → ℕ
left_of ordering = ordering.left

-- how many that is when it begins with so many links
abbrev pub most_left : ℕ → ℕ
most_left links = links / 32 + 64

-- a step goes on with the same links and with fewer steps left
pub record OrdersOn (before after : Ordering) : Type 0 where
  pub links : links_of after ≡ links_of before
  pub fewer : left_of after < left_of before

-- an order of so many links: each of them has exactly one place below their number
pub record IsOrderOf (count : ℕ) (order : Order) : Type 0 where
  pub counted : length order.links ≡ count
  pub lawful : IsOrder order
