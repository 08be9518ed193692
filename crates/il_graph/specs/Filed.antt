-- A part that was just made, and one to which a file came.
use Rattle.std.specs.Prelude.{◌≡◌, Bool, true, false, [], Some, None}
use Rattle.omx_types.specs.declared.kind.Kind.{Kind}
use Rattle.part_api.specs.Terms.{Terms}
use Rattle.il_machine.specs.Files.{Offered, stream_with}
use Rattle.il_machine.specs.Kinds.{is_source}
use Rattle.il_machine.specs.World.{Stream}
use Rattle.il_machine.specs.Whole.{HasDone}
use Rattle.audio_parts.specs.AnyParts.{attached_of}
use Rattle.audio_parts.specs.Kinds.{default_terms, with_file}
use Rattle.audio_parts.specs.Shapes.{IsLawful}
use Rattle.audio_parts.specs.Shown.{ShownPart}
use Rattle.audio_parts.specs.declared.part_file.PartFile.{PartFile}
use Rattle.il_graph.specs.Shown.{seen_of}

module _ {S K : Type 0} where
  -- a new part of the kind, without a file
  pub record IsNew (kind : Kind) (p : ShownPart S K) : Type 0 where
    pub terms : p.terms ≡ default_terms kind
    pub lawful : IsLawful p.terms
    pub failed : p.failed ≡ false
    pub file : p.file ≡ None
    pub left : is_source kind ≡ true → p.left ≡ Some 0
    pub rest : is_source kind ≡ true → p.rest ≡ Some []

  -- the file came to the part, and nothing has gone through it
  pub record IsFiled (file : PartFile S K) (offered : Offered) (p q : ShownPart S K) : Type 0 where
    pub terms : q.terms ≡ with_file p.terms (Some (attached_of file))
    pub failed : q.failed ≡ p.failed
    pub file_is : q.file ≡ Some file
    pub done : (t : Terms) (failed : Bool) (s : Stream) → t.kind ≡ p.terms.kind → t.file ≡ Some (attached_of file) → HasDone t failed (stream_with offered s) (seen_of q)
