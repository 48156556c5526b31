-- The kind of a reply, by what is asked for.
use Rattle.route_engine.specs.declared.aim.Aim.{Aim}
use Rattle.route_engine.specs.declared.aim.Aim.TheVariants.{Certificate, Track, Table, Within}
use Rattle.route_http.specs.declared.form.Form.{Form}
use Rattle.route_http.specs.declared.form.Form.TheVariants as forms
use Rattle.route_http.specs.declared.kind.Kind.{Kind}
use Rattle.route_http.specs.declared.kind.Kind.TheVariants as kinds

-- the kind of a reply that goes by its form
abbrev pub kind_of : Form → Kind
kind_of forms.GeoJson = kinds.Json
kind_of forms.Csv = kinds.Csv

-- the kind of a reply: that of a table and that of a certificate is one, whatever form is asked for
abbrev pub kind_for : Aim → Form → Kind
kind_for Track form = kind_of form
kind_for Table form = kinds.Json
kind_for Certificate form = kinds.Plain
kind_for Within form = kind_of form
