-- What the file of a map comes to.
use Rattle.std.proofs.Common.{◌≡◌, ℕ, Bool, true, false, List, Result, Err, refl, sym, subst}
use Rattle.command_words.specs.Given.{Named}
use Rattle.edge_io.specs.Files.{FailsToOpen, FilesSeen, Opens}
use Rattle.edge_io.specs.Whole.{ReadsBytes}
use Rattle.overpass_graph.specs.Maps.{MapValue}
use Rattle.run_files.specs.File.{Asks}
use Rattle.run_files.specs.File.{Asks as asks}
use Rattle.run_files.specs.Limits.{most_map}
use Rattle.run_files.specs.Map.{IsMapAnswer, TakesMap, map_notes}
use Rattle.run_files.specs.Map.{TakesMap as takes}
use Rattle.run_files.specs.Notes.{Inputs, IsNoted, NotesSeen, inputs}
use Rattle.run_files.specs.declared.status.Status.{Status}
use Rattle.run_files.specs.declared.status.Status.TheVariants.{NotFound, ReadFault}

module _ (file : Named) (old : FilesSeen) (notes : NotesSeen)
  where
    -- a failed opening is a read fault
    pub map-failed : (new : FilesSeen) (word : ℕ) → word ≡ file.word → FailsToOpen old new →
        TakesMap file (inputs old notes) (inputs new notes) (Err (ReadFault word))
    map-failed new word named fails =
        subst (λ (w : ℕ). TakesMap file (inputs old notes) (inputs new notes) (Err (ReadFault w))) (sym named) (takes.failed fails refl)

    -- an opening that found no file of the name is told so
    pub map-missing : (new : FilesSeen) (name : List ℕ) (word : ℕ) (found : Bool) → name ≡ file.name → word ≡ file.word → found ≡ false →
        Opens old new name found → TakesMap file (inputs old notes) (inputs new notes) (Err (NotFound word))
    map-missing new name word found is named none opens =
        subst (λ (w : ℕ). TakesMap file (inputs old notes) (inputs new notes) (Err (NotFound w))) (sym named)
        (takes.missing (subst (λ (b : Bool). Opens old new file.name b) none (subst (λ (n : List ℕ). Opens old new n found) is opens)) refl)

    -- a file that was opened, and of which these bytes were read, is answered and noted so
    pub map-read : (mid new : FilesSeen) (bytes name : List ℕ) (found : Bool) (later : NotesSeen) (result : Result MapValue Status) →
        name ≡ file.name → found ≡ true → Opens old mid name found → ReadsBytes most_map mid new bytes →
        IsMapAnswer file bytes mid new result → IsNoted (map_notes file bytes result) notes later →
        TakesMap file (inputs old notes) (inputs new later) result
    map-read mid new bytes name found later result is some opens reads answer noted =
        takes.reading (subst (λ (b : Bool). Opens old mid file.name b) some (subst (λ (n : List ℕ). Opens old mid n found) is opens)) reads
        answer noted

-- the file of a map is asked for, whatever is noted
pub map-asked : (file : Named) (old new : Inputs) (result : Result MapValue Status) → TakesMap file old new result →
    Asks file most_map (IsMapAnswer file) old.files new.files result
map-asked file old new _ (takes.failed fails same) = asks.failed fails
map-asked file old new _ (takes.missing opens same) = asks.missing opens
map-asked file old new result (takes.reading opens reads answer noted) = asks.reading opens reads answer
