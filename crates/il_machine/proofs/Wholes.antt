-- Settings stay whole.
use Rattle.std.proofs.Common.{ℕ, replicate, ◌∙◌, length-set, length-append, true, false}
use Rattle.std.proofs.lemmas.List.{length-replicate}
use Rattle.omx_types.specs.declared.kind.Kind.{Kind}
use Rattle.omx_types.specs.declared.param.Param.{Param}
use Rattle.omx_types.specs.declared.param.Param.TheVariants as params
use Rattle.il_machine.specs.Settings.{Settings, IsSized, IsWhole, default_settings, default_setting, changed_by, weights_in}
use Rattle.il_machine.specs.Kinds.{inputs_of, outputs_of}

pub whole_default : (kind : Kind) → IsSized kind → IsWhole (default_settings kind)
whole_default kind h = record {
  sized = h;
  ports = length-append (replicate (inputs_of kind) (default_setting kind true)) (replicate (outputs_of kind) (default_setting kind false)) ∙ simp length-replicate;
  weights = length-replicate (weights_in kind) 4096;
}

pub whole_changed : (port : ℕ) (value : Param) (s : Settings) → IsWhole s → IsWhole (changed_by port value s)
whole_changed port (params.Port d) s W = record { sized = W.sized; ports = length-set s.ports port _ ∙ W.ports; weights = W.weights }
whole_changed port (params.Supplier x) s W = record { sized = W.sized; ports = length-set s.ports port _ ∙ W.ports; weights = W.weights }
whole_changed port (params.Priority n) s W = record { sized = W.sized; ports = W.ports; weights = W.weights }
whole_changed port (params.Gain n) s W = record { sized = W.sized; ports = W.ports; weights = W.weights }
whole_changed port (params.Weight n) s W = record { sized = W.sized; ports = W.ports; weights = length-set s.weights port n ∙ W.weights }
