-- The form of each line of the tag table.
use Rattle.std.proofs.Common.{◌≡◌, [], ◌∷◌, refl}
use Rattle.std.specs.Prelude.{codes}
use Rattle.std.specs.Str.{chars, is_utf8}
use lib.Utf8.{encode}
use Rattle.lookup_table.specs.Line.{LookupVersion, MinorVersion, Opens, TagLine, line_form}
use Rattle.lookup_table.specs.declared.part.Part.TheVariants.{Node, Way}

-- ---- Forms of lines

-- the form of a line of dashes
pub form-lookup_version : line_form (codes "---lookupversion:10") ≡ LookupVersion
unfolding is_utf8 chars encode
form-lookup_version = refl

-- the form of a line of dashes
pub form-minor_version : line_form (codes "---minorversion:1") ≡ MinorVersion
unfolding is_utf8 chars encode
form-minor_version = refl

-- the form of a line of dashes
pub form-way : line_form (codes "---context:way") ≡ Opens Way
unfolding is_utf8 chars encode
form-way = refl

-- the form of a tag line
pub form-reversedirection-yes : line_form (codes "reversedirection;0000000000 yes") ≡ TagLine (codes "reversedirection") (codes "yes" ∷ [])
unfolding is_utf8 chars encode
form-reversedirection-yes = refl

-- the form of a tag line
pub form-highway-residential : line_form (codes "highway;0000000400 residential") ≡ TagLine (codes "highway") (codes "residential" ∷ [])
unfolding is_utf8 chars encode
form-highway-residential = refl

-- the form of a tag line
pub form-highway-primary : line_form (codes "highway;0000000300 primary") ≡ TagLine (codes "highway") (codes "primary" ∷ [])
unfolding is_utf8 chars encode
form-highway-primary = refl

-- the form of a tag line
pub form-highway-track : line_form (codes "highway;0000000200 track") ≡ TagLine (codes "highway") (codes "track" ∷ [])
unfolding is_utf8 chars encode
form-highway-track = refl

-- the form of a tag line
pub form-highway-cycleway : line_form (codes "highway;0000000100 cycleway") ≡ TagLine (codes "highway") (codes "cycleway" ∷ [])
unfolding is_utf8 chars encode
form-highway-cycleway = refl

-- the form of a tag line
pub form-oneway-yes : line_form (codes "oneway;0000000020 yes true 1") ≡
    TagLine (codes "oneway") (codes "yes" ∷ codes "true" ∷ codes "1" ∷ [])
unfolding is_utf8 chars encode
form-oneway-yes = refl

-- the form of a tag line
pub form-oneway-no : line_form (codes "oneway;0000000010 no") ≡ TagLine (codes "oneway") (codes "no" ∷ [])
unfolding is_utf8 chars encode
form-oneway-no = refl

-- the form of a tag line
pub form-bicycle-yes : line_form (codes "bicycle;0000000020 yes") ≡ TagLine (codes "bicycle") (codes "yes" ∷ [])
unfolding is_utf8 chars encode
form-bicycle-yes = refl

-- the form of a tag line
pub form-bicycle-no : line_form (codes "bicycle;0000000010 no") ≡ TagLine (codes "bicycle") (codes "no" ∷ [])
unfolding is_utf8 chars encode
form-bicycle-no = refl

-- the form of a tag line
pub form-junction-roundabout : line_form (codes "junction;0000000010 roundabout") ≡ TagLine (codes "junction") (codes "roundabout" ∷ [])
unfolding is_utf8 chars encode
form-junction-roundabout = refl

-- the form of a tag line
pub form-route_bicycle_rcn-yes : line_form (codes "route_bicycle_rcn;0000000000 yes") ≡
    TagLine (codes "route_bicycle_rcn") (codes "yes" ∷ [])
unfolding is_utf8 chars encode
form-route_bicycle_rcn-yes = refl

-- the form of a line of dashes
pub form-node : line_form (codes "---context:node") ≡ Opens Node
unfolding is_utf8 chars encode
form-node = refl

-- the form of a tag line
pub form-nodeaccessgranted-yes : line_form (codes "nodeaccessgranted;0000000000 yes") ≡
    TagLine (codes "nodeaccessgranted") (codes "yes" ∷ [])
unfolding is_utf8 chars encode
form-nodeaccessgranted-yes = refl

-- the form of a tag line
pub form-barrier-gate : line_form (codes "barrier;0000000020 gate") ≡ TagLine (codes "barrier") (codes "gate" ∷ [])
unfolding is_utf8 chars encode
form-barrier-gate = refl

-- the form of a tag line
pub form-barrier-bollard : line_form (codes "barrier;0000000010 bollard") ≡ TagLine (codes "barrier") (codes "bollard" ∷ [])
unfolding is_utf8 chars encode
form-barrier-bollard = refl
