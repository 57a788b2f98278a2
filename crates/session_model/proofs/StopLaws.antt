-- What holds of a refusal.
use Rattle.session_model.proofs.Common.{◌≡◌, subst, sym, Option, Result, Err, CallPlan, told_after_call}
use Rattle.session_model.specs.declared.stops.Stop.{Stop}
use Rattle.session_model.specs.declared.stops.Stop.TheVariants.{Refused, Halted}
use Rattle.session_model.specs.steps.Stops.{AsksOnce, IfRefusal, IfRefused}

-- what holds of a refusal since another thing does
pub refusal_weaker : {Fault : Type 0} (stop : Stop Fault) (P Q : Fault → Type 0) → ((told : Fault) → P told → Q told) → IfRefusal stop P → IfRefusal stop Q
refusal_weaker (Refused told) P Q gives holds = gives told holds
refusal_weaker (Halted halt) P Q gives holds = tt

-- what holds of a refusal since another thing does of what it came from
pub refused_by : {T Fault : Type 0} (result : Result T (Stop Fault)) (stop : Stop Fault) (P Q : Fault → Type 0) → result ≡ Err stop
    → ((told : Fault) → P told → Q told) → IfRefusal stop P → IfRefused result Q
refused_by {T} {Fault} result stop P Q is gives holds =
    subst (λ (r : Result T (Stop Fault)). IfRefused r Q) (sym is) (refusal_weaker stop P Q gives holds)

-- it was asked once for what is refused
pub refused_asking : (T : Type 0) {Fault : Type 0} (old new : Option CallPlan) (stop : Stop Fault) (P : Fault → Type 0) → IfRefusal stop P
    → AsksOnce {T = T} old new (Err stop) → IfRefusal stop (λ told. P told × (new ≡ told_after_call old))
refused_asking T old new (Refused told) P holds asked = (holds, asked)
refused_asking T old new (Halted halt) P holds asked = tt

-- the fault of a refusal
pub refusal_told : {Fault : Type 0} (stop : Stop Fault) (fault : Fault) (P : Fault → Type 0) → stop ≡ Refused fault → IfRefusal stop P → P fault
refusal_told {Fault} stop fault P is holds = subst (λ (s : Stop Fault). IfRefusal s P) is holds
