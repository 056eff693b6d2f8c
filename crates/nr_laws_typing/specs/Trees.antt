-- The tree of a promise is the typing of its text.
use Rattle.std.specs.Prelude.{◌≡◌, List, [], count_by, slice_get, Some, Ok}
use Rattle.nr_rule_syntax.specs.declared.tree.Name.{Name}
use Rattle.nr_rule_syntax.specs.declared.tree.Form.{Form}
use Rattle.nr_rule_syntax.specs.declared.tree.Decl.{Decl}
use Rattle.nr_spec_typing.specs.declared.name.Named.TheVariants as named
use Rattle.nr_spec_typing.specs.declared.text.Promise.{Promise}
use Rattle.nr_spec_typing.specs.Declarations.{TypedText, Known, declare, declarations}
use Rattle.nr_spec_typing.specs.Forms.{typed}
use Rattle.nr_laws_typing.specs.Uses.{APromise}
use Rattle.nr_laws_typing.specs.Fine.{is_a}

-- A promise that stands after these declarations has the number of the promises among them, and its tree is its
-- formula with the names resolved that they declare, and its own.
pub record HasTree (text : TypedText) (before : List Decl) (name : Name) (form : Form) : Type 0 where
  pub promise : Promise
  pub stands : slice_get text.promises (count_by (is_a APromise) before) ≡ Some promise
  pub called : promise.name ≡ name.word
  pub known : Known
  pub says : declarations before ≡ Ok known
  pub tree : typed form (record { names = declare known.names name named.Promise; variables = [] }) ≡ Ok promise.form
