-- The end of a text.
use Rattle.run_files.proofs.MapReadingLemmas.{told-at-end}
use Rattle.run_files.proofs.map_reading.finish.Goals as goal

-- the text is refused
pub returns-in-Err : goal.returns-in-Err
returns-in-Err c = record { exact = λ bytes stands. told-at-end bytes _ _ c.told.ensures.exact (c.in-Err.ensures.exact bytes stands) }
