-- The reply as lines of fields that are parted by tabulators (this project's own rule).
use Rattle.std.specs.Prelude.{ℕ, pos, List, ◌++◌, codes, decimal}
use Rattle.std.specs.List.{flat_map}
use Rattle.fixed_num.specs.Text.{mil6}
use Rattle.overpass_graph.specs.Maps.{MapValue}
use Rattle.track_legs.specs.Rows.{rows_of}
use Rattle.track_legs.specs.declared.row.Row.{Row}
use Rattle.track_legs.specs.declared.track.Leg.{Leg}
use Rattle.track_legs.specs.declared.track.Track.{Track}
use Rattle.track_reply.specs.Earlier.{numbers_of, walks_of}
use Rattle.track_reply.specs.Joined.{line_end}
use Rattle.track_reply.specs.Rows.{header_text, row_text}
use Rattle.track_reply.specs.Source.{Source}
use Rattle.track_reply.specs.Steps.{walk_fields}
use Rattle.track_legs.specs.Sums.{total_cost, total_rank}
use Rattle.track_reply.specs.declared.style.Style.TheVariants.{Lines}

-- the line of a row
abbrev pub row_line : Source → Row → List ℕ
row_line source row = row_text Lines source row ++ line_end

-- the lines of rows, below the header
unfoldable pub row_lines : Source → List Row → List ℕ
row_lines source rows = header_text Lines ++ (line_end ++ flat_map (row_line source) rows)

-- the lines of the cost and of the rank
unfoldable pub sum_lines : List Leg → List ℕ
sum_lines legs =
    codes "cost\t" ++ (mil6 (pos (total_cost legs)) ++
    (codes "\nrank\t" ++ (mil6 (pos (total_rank legs)) ++ line_end)))

-- the line of a leg
unfoldable pub leg_line : MapValue → Leg → List ℕ
leg_line map leg = codes "walk" ++ (walk_fields map leg.links ++ line_end)

-- the lines of legs
unfoldable pub leg_lines : MapValue → List Leg → List ℕ
leg_lines map legs = flat_map (leg_line map) legs

-- the line of a leg of an earlier alternative
unfoldable pub earlier_line : MapValue → ℕ → List ℕ → List ℕ
earlier_line map number walk = codes "earlier\t" ++ (decimal number ++ (walk_fields map walk ++ line_end))

-- the lines of an earlier alternative
unfoldable pub alternative_lines : MapValue → ℕ → List (List ℕ) → List ℕ
alternative_lines map number walks = flat_map (earlier_line map number) walks

-- the lines of earlier alternatives, one after the other
unfoldable pub earlier_lines : MapValue → List (List (List ℕ)) → List ℕ
earlier_lines map earlier =
    flat_map (λ number. alternative_lines map number (walks_of earlier number)) (numbers_of earlier)

-- the bytes of the reply
unfoldable pub csv_of : Source → Track → List ℕ
csv_of source track =
    row_lines source (rows_of source.prices source.links.facts track)
    ++ (sum_lines track.legs ++ (leg_lines source.map track.legs ++ earlier_lines source.map track.earlier))
