-- An index that is no other is that of a weight, and its port is an input of a mixer.
use Rattle.std.proofs.Common.{◌≡◌, ◌≢◌, ℕ, ◌+◌, ◌<◌, ◌≤◌, Bool, true, false, None, refl, arith, zero, suc, List, [], ◌∷◌, length, take, get_or}
use Rattle.std.proofs.lemmas.Bool.Decides.{nat_tests}
use Rattle.omx_types.specs.declared.kind.Kind.{Kind}
use Rattle.omx_types.specs.declared.kind.Kind.TheVariants.{Source, Decoder, Alaw, Mulaw, Gain, Mixer, Splitter, Sink, Late}
use Rattle.omx_types.specs.declared.param.ParamKey.{ParamKey}
use Rattle.il_machine.specs.Settings.{Settings, get_refusal, weights_in, is_mixer, IsSized, value_of}
use Rattle.omx_types.specs.declared.param.Param.TheVariants.{Weight}
use Rattle.il_machine.specs.Kinds.{inputs_of, outputs_of}

mixer_weights : (kind : Kind) → is_mixer kind ≡ true → weights_in kind ≡ inputs_of kind
mixer_weights Source h = cc
mixer_weights Decoder h = cc
mixer_weights Alaw h = cc
mixer_weights Mulaw h = cc
mixer_weights Gain h = cc
mixer_weights (Mixer n) h = refl
mixer_weights (Splitter n) h = cc
mixer_weights Sink h = cc
mixer_weights Late h = cc

pub weight_there : (s : Settings) (key : ParamKey) (config : Bool) → get_refusal s key config ≡ None → key.index ≢ 1 → key.index ≢ 2 → key.index ≢ 3 → key.index ≢ 4 → key.port < weights_in s.kind
weight_there s key false h a b c d = grind (arith, nat_tests)
weight_there s key true h a b c d = grind (arith, nat_tests, mixer_weights s.kind)

pub few_ports : (kind : Kind) → IsSized kind → inputs_of kind + outputs_of kind ≤ 9
few_ports Source h = omega arith
few_ports Decoder h = omega arith
few_ports Alaw h = omega arith
few_ports Mulaw h = omega arith
few_ports Gain h = omega arith
few_ports (Mixer n) h = let a = h.1 in omega arith
few_ports (Splitter n) h = let a = h.1 in omega arith
few_ports Sink h = omega arith
few_ports Late h = omega arith

pub few_weights : (kind : Kind) → IsSized kind → weights_in kind ≤ 8
few_weights Source h = omega arith
few_weights Decoder h = omega arith
few_weights Alaw h = omega arith
few_weights Mulaw h = omega arith
few_weights Gain h = omega arith
few_weights (Mixer n) h = h.1
few_weights (Splitter n) h = omega arith
few_weights Sink h = omega arith
few_weights Late h = omega arith

pub value_is_weight : (s : Settings) (key : ParamKey) → key.index ≢ 1 → key.index ≢ 2 → key.index ≢ 3 → key.index ≢ 4 → value_of s key ≡ Weight (get_or s.weights key.port 4096)
value_is_weight s key a b c d = grind (arith, nat_tests)

pub taken_at : (n k : ℕ) (xs : List ℕ) → k < n → k < length xs → get_or (take n xs) k 4096 ≡ get_or xs k 0
taken_at n k [] a b = absurd (omega arith)
taken_at zero k (x ∷ xs) a b = absurd (omega arith)
taken_at (suc n) zero (x ∷ xs) a b = refl
taken_at (suc n) (suc k) (x ∷ xs) a b = taken_at n k xs (omega arith) (omega arith)
