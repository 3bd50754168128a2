-- What a worker takes with it to its thread may go there.
use mathlib.Core.List.{[], ◌∷◌}
use mir.Syntax.{Sym}
use denote.RattleType.{RattleType}
use denote.Struct.Declared.{shape}
use denote.Struct.Tuple.{TupleAt, type_at}
use denote.Param.Send.{IsSend, recorded_send, struct_send}

-- a closure, by the six values that it takes with it
pub closure_send : (ν : Sym) (A B C D E F : RattleType) → IsSend A → IsSend B → IsSend C → IsSend D → IsSend E → IsSend F
    → IsSend (TupleAt ν (A ∷ B ∷ C ∷ D ∷ E ∷ F ∷ []))
closure_send ν A B C D E F a b c d e f =
    let T = type_at ν (A ∷ B ∷ C ∷ D ∷ E ∷ F ∷ []) in
    recorded_send _ _ _ T.to_one (struct_send (shape T) (a, (b, (c, (d, (e, (f, tt)))))))
