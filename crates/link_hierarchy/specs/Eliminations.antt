-- The elimination of nodes, one after the other, from the least important one (this project's own rule).
use Rattle.std.specs.Prelude.{◌≡◌, ◌≢◌, ℕ, ◌+◌, ◌-◌, ◌*◌, ◌<◌, ◌≤◌, List, [], ◌∷◌, ◌++◌, length, get_or, Vec}
use Rattle.std.specs.declared.alloc.Global.{Global}
use Rattle.item_list.specs.Pages.{numbers_of}
use Rattle.link_hierarchy.specs.Rows.{AreLists, AreRows, Holds, IsFlat, IsItem, row_at}
use Rattle.link_hierarchy.specs.declared.arcs.Arc.{Arc}
use Rattle.link_hierarchy.specs.declared.elimination.Elimination.{Elimination}

-- a node that two rows hold, or a number above all nodes
abbrev pub IsShared : (outs ins : List ℕ) (node : ℕ) → Type 0
IsShared outs ins node = node < 0xffff_ffff → Holds outs node × Holds ins node

-- the rows of the first nodes of a list hold what stands above them in a row
abbrev pub AreRaised : (by row : List ℕ) (rows : List (List ℕ)) (count : ℕ) → Type 0
AreRaised by row rows count =
    (k y : ℕ) → k < count → k < length by → Holds row y → get_or by k 0 < y → Holds (row_at rows (get_or by k 0)) y

-- the rows of a node and of all above it are these
abbrev pub AreFrom : (node : ℕ) (all rows : List (List ℕ)) → Type 0
AreFrom node all rows = (v : ℕ) → node ≤ v → row_at rows v ≡ row_at all v

-- how far an elimination is: with the rows that were laid, the rows hold all arcs, and the edges from the tails above each node
-- that is eliminated to the heads above it are held or put off; the first tails and heads above this node are done
pub record IsElimination (arcs : List Arc) (e : Elimination) : Type 0 where
  pub outs : List (List ℕ)
  pub ins : List (List ℕ)
  pub inside : e.node ≤ e.rows.nodes
  pub are : AreRows e.rows.nodes outs ins arcs (length arcs) e.node
  pub out_lists : AreLists e.rows.nodes (numbers_of e.rows.outs.items)
  pub in_lists : AreLists e.rows.nodes (numbers_of e.rows.ins.items)
  pub out_from : AreFrom e.node outs (numbers_of e.rows.outs.items)
  pub in_from : AreFrom e.node ins (numbers_of e.rows.ins.items)
  pub out_flat : IsFlat outs e.node e.out_starts.items e.heads.items
  pub in_flat : IsFlat ins e.node e.in_starts.items e.tails.items
  pub shared : IsShared (row_at outs e.node) (row_at ins e.node) e.last
  pub tails_in : e.tails_done ≤ length (row_at ins e.node)
  pub heads_in : e.heads_done ≤ length (row_at outs e.node)
  pub tails : AreRaised (row_at ins e.node) (row_at outs e.node) outs e.tails_done
  pub heads : AreRaised (row_at outs e.node) (row_at ins e.node) ins e.heads_done

-- how many steps an elimination takes at most
abbrev pub left_of : Elimination → ℕ
left_of e = (e.rows.nodes - e.node) * (2 * e.rows.nodes + 1) + (2 * e.rows.nodes - (e.tails_done + e.heads_done))

-- the next tail and the next head of a node are above the last one that has to be done, or there is none
pub record ArePassed (arcs : List Arc) (e : Elimination) (tail head : ℕ) : Type 0 where
  pub tail_is : IsItem (row_at (numbers_of e.rows.ins.items) e.node) e.tails_done tail
  pub head_is : IsItem (row_at (numbers_of e.rows.outs.items) e.node) e.heads_done head
  pub tail_over : tail < 0xffff_ffff → e.last < tail
  pub head_over : head < 0xffff_ffff → e.last < head

-- the row of a node is laid behind those of lower nodes, and leaves its place empty
pub record Lays (old new : List (Vec ℕ Global)) (starts starts2 laid laid2 : List ℕ) (node : ℕ) : Type 0 where
  pub counted : length new ≡ length old
  pub here : row_at (numbers_of new) node ≡ []
  pub others : (v : ℕ) → v ≢ node → row_at (numbers_of new) v ≡ row_at (numbers_of old) v
  pub laid_is : laid2 ≡ laid ++ row_at (numbers_of old) node
  pub starts_is : starts2 ≡ starts ++ length laid2 ∷ []
