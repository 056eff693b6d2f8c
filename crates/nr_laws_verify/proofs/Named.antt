-- What a promise file that is read says: few promises, which name prefixes.
use Rattle.std.proofs.Common.{◌≡◌, ℕ, ◌≤◌, List, length, Ok, refl, sym, subst}
use Rattle.std.specs.List.{All, AllByRecursion, flat_map}
use Rattle.std.proofs.lemmas.List.Elements.{All-from_recursion}
use Rattle.sha2.specs.Sha256.{sha256}
use Rattle.nr_spec_wire.specs.Reading.{◌>>=◌}
use Rattle.nr_spec_wire.proofs.Steps.{bind_ok, ok_is}
use Rattle.nr_spec_bgp.specs.Prefixes.{IsCidr}
use Rattle.nr_rule_syntax.specs.declared.tree.PatternText.{PatternText}
use Rattle.nr_rule_syntax.specs.declared.tree.PrefixText.{PrefixText}
use Rattle.nr_rule_syntax.specs.declared.tree.File.{File}
use Rattle.nr_rule_syntax.specs.declared.tree.Decl.{Decl}
use Rattle.nr_rule_syntax.specs.declared.tree.Decl.TheVariants as decls
use Rattle.nr_rule_syntax.specs.Nesting.{IsNested}
use Rattle.nr_rule_syntax.specs.Reading.{file_of}
use Rattle.nr_rule_syntax.specs.Written.{IsPattern, IsWritten}
use Rattle.nr_rule_syntax.proofs.WrittenFiles.{IsRead, file_is_read}
use Rattle.nr_spec_typing.specs.declared.text.Promise.{Promise}
use Rattle.nr_spec_typing.specs.Declarations.{TypedText, typed_text}
use Rattle.nr_spec_typing.specs.Lengths.{FitsLength, FitsLengths}
use Rattle.nr_spec_typing.proofs.Guaranteed.{typed_texts_fit}
use Rattle.nr_spec_texts.specs.Promises.{PromiseFile, promise_of}
use Rattle.nr_laws_typing.specs.Says.{Head, Says, head_in, head_of}
use Rattle.nr_laws_verify.proofs.Each.{each_flat, each_mapped, each_unmapped, each_weaker}

abbrev pub NamesPrefixes : Promise → Type 0
NamesPrefixes p = AllByRecursion IsCidr p.at

pub record IsSaid (t : TypedText) : Type 0 where
  pub few : length t.promises ≤ 256
  pub name : AllByRecursion NamesPrefixes t.promises

-- ---- what is read

record AreRead (text : List ℕ) (p : PromiseFile) : Type 0 where
  same : p.text ≡ text
  reads : file_of text ≡ Ok p.file
  says : typed_text p.file ≡ Ok p.says

parts : (text : List ℕ) (p : PromiseFile) → promise_of text ≡ Ok p → AreRead text p
unfolding promise_of
parts text p e =
    let make : File → TypedText → PromiseFile = λ file says. record { text = text; digest = sha256 text; file = file; says = says } in
    let f = bind_ok (file_of text) (λ file. typed_text file >>= (λ says. Ok (make file says))) p e in
    let t = bind_ok (typed_text f.0) (λ says. Ok (make f.0 says)) p f.2 in
    subst (AreRead text) (ok_is (make f.0 t.0) p t.2) (record { same = refl; reads = f.1; says = t.1 })

pub text_kept : (text : List ℕ) (p : PromiseFile) → promise_of text ≡ Ok p → p.text ≡ text
text_kept text p e = (parts text p e).same

-- ---- its declarations

short_pattern : (p : PatternText) → IsPattern p → FitsLength p
short_pattern p h = h.0.len

short_prefixes : (d : Decl) → IsWritten d → FitsLengths d
short_prefixes (decls.Network value span) h = tt
short_prefixes (decls.Commit value span) h = tt
short_prefixes (decls.Neighbour name asn addr key) h = tt
short_prefixes (decls.Group name members) h = tt
short_prefixes (decls.Define name patterns) h = All-from_recursion FitsLength patterns (each_weaker FitsLength IsPattern short_pattern patterns h.1.1)
short_prefixes (decls.Promise name grace at form) h = tt

abbrev HeadNames : Head → Type 0
HeadNames h = AllByRecursion IsCidr h.at

head_names : (d : Decl) → IsRead d → AllByRecursion HeadNames (head_in d)
head_names (decls.Network value span) h = tt
head_names (decls.Commit value span) h = tt
head_names (decls.Neighbour name asn addr key) h = tt
head_names (decls.Group name members) h = tt
head_names (decls.Define name patterns) h = tt
head_names (decls.Promise name grace at form) h = (each_mapped IsCidr (λ (p : PrefixText). p.prefix) at h.written.2, tt)

said : (file : File) (t : TypedText) → AllByRecursion IsRead file.decls → typed_text file ≡ Ok t → Says t file.decls → IsSaid t
said file t all e says =
    let ds = file.decls in
    let nested : All IsNested ds = All-from_recursion IsNested ds (each_weaker IsNested IsRead (λ d h. h.nested) ds all) in
    let short : All FitsLengths ds = All-from_recursion FitsLengths ds (each_weaker FitsLengths IsRead (λ d h. short_prefixes d h.written) ds all) in
    let heads : AllByRecursion HeadNames (flat_map head_in ds) = each_flat HeadNames head_in ds (each_weaker (λ d. AllByRecursion HeadNames (head_in d)) IsRead head_names ds all) in
    record {
      few = (typed_texts_fit file t nested short e).promises;
      name = each_unmapped HeadNames head_of t.promises (subst (AllByRecursion HeadNames) (sym says.promises) heads);
    }

abbrev pub SaysWhatIsDeclared : Type 0
SaysWhatIsDeclared = (file : File) (t : TypedText) → typed_text file ≡ Ok t → Says t file.decls

pub promise_said : SaysWhatIsDeclared → (text : List ℕ) (p : PromiseFile) → promise_of text ≡ Ok p → IsSaid p.says
promise_said law text p e =
    let r = parts text p e in
    said p.file p.says (file_is_read text p.file r.reads) r.says (law p.file p.says r.says)
