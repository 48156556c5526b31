-- What turns say.
use Rattle.item_list.specs.Turns.{Says}
use Rattle.item_list.specs.declared.turn.Turn.{Turn}
use Rattle.item_list.specs.declared.turn.Turn.TheVariants.{More, Done}

-- a turn says what follows from what it says
pub says-map :
    {N E : Type 0} {more wider_more : N → Type 0} {done wider_done : E → Type 0} → ((next : N) → more next → wider_more next) →
    ((end : E) → done end → wider_done end) → (turn : Turn N E) → Says more done turn → Says wider_more wider_done turn
says-map goes ends (More next) said = goes next said
says-map goes ends (Done end) said = ends end said
