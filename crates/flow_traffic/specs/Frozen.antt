-- Frozen flights keep their slots: the frozen pairs of flight and slot, and which of them a reading
-- may remove (EUROCONTROL ATFCM Users Manual, slot issue).
use Rattle.std.specs.Prelude.{◌≡◌, ◌⊎◌, ℕ, List, []}
use Rattle.std.specs.Option.{option_map_or}
use Rattle.fpl_message.specs.Messages.{shut_reg}
use Rattle.fpl_message.specs.Reads.{ReadingView, ord}
use Rattle.flow_slots.specs.Assignment.{Placed}
use Rattle.flow_regulations.specs.Regulations.{Regulation}
use Rattle.flow_regulations.specs.Listing.{HasPair}
use Rattle.flow_traffic.specs.declared.verdict.Kind.TheVariants as kind
use Rattle.flow_traffic.specs.declared.verdict.Verdict.{Verdict}
use Rattle.flow_traffic.specs.declared.verdict.Verdict.TheVariants.{Accepted}
use Rattle.flow_traffic.specs.Traffic.{Traffic, regulation_named}

-- the frozen pairs of the open regulation of this name; none if no regulation of this name is open
abbrev pub frozen_pairs : List ℕ → List Regulation → List Placed
frozen_pairs id regulations = option_map_or (λ r. r.fixed) (regulation_named id regulations) []

-- an accepted DLA, CHG or CNL may remove the slots of the flight that it is about, and the accepted
-- SHUT of a regulation those in it; nothing else may remove any
abbrev pub MayUnfreeze : ReadingView → Verdict → List ℕ → ℕ → Type 0
MayUnfreeze reading (Accepted kind.Dla plan) id flight = plan ≡ flight
MayUnfreeze reading (Accepted kind.Chg plan) id flight = plan ≡ flight
MayUnfreeze reading (Accepted kind.Cnl plan) id flight = plan ≡ flight
MayUnfreeze (ord (shut_reg named)) (Accepted kind.Shut plan) id flight = named ≡ id
MayUnfreeze reading verdict id flight = ⊥

-- a frozen pair is still one after the reading, unless this verdict on it may have removed it
abbrev pub IsFrozenStill : ReadingView → Verdict → List Regulation → List ℕ → Placed → Type 0
IsFrozenStill reading verdict regulations id a = HasPair a (frozen_pairs id regulations) ⊎ MayUnfreeze reading verdict id a.flight

abbrev pub FrozenPairsStay : ReadingView → Traffic → Traffic → Verdict → Type 0
FrozenPairsStay reading old new verdict =
    (id : List ℕ) (a : Placed) → HasPair a (frozen_pairs id old.regulations) → IsFrozenStill reading verdict new.regulations id a
