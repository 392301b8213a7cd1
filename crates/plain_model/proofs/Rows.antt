-- A row of a world after commands, by values.
use Rattle.std.specs.Prelude.{◌≡◌, ℕ, Bool, true, false, List, [], ◌∷◌, codes, Ok}
use Rattle.std.proofs.Common.{refl}
use Rattle.plant.specs.declared.device.DeviceOp.{DeviceOp}
use Rattle.plant.specs.declared.device.DeviceOp.TheVariants.{Join, Leave, Wipe}
use Rattle.plant.specs.declared.device.Answer.TheVariants.{Done}
use Rattle.plant.specs.Events.{Event, Did}
use Rattle.plant.specs.Worlds.{world_of}

-- whether port 1 of s1 is in VLAN 100 after these steps
abbrev stands : List Event → Bool
stands trace = (world_of trace).rows (record { switch = codes "s1"; port = 1; vlan = 100 })

abbrev join : ℕ → Bool → Event
join port applied = Did (Join (codes "s1") port (record { 0 = 100 })) applied (Ok Done)

abbrev leave : ℕ → Bool → Event
leave port applied = Did (Leave (codes "s1") port (record { 0 = 100 })) applied (Ok Done)

nothing : stands [] ≡ false
nothing = refl

joined : stands (join 1 true ∷ []) ≡ true
joined = refl

not_applied : stands (join 1 false ∷ []) ≡ false
not_applied = refl

joined_twice : stands (join 1 true ∷ join 1 true ∷ []) ≡ true
joined_twice = refl

left_again : stands (join 1 true ∷ leave 1 true ∷ []) ≡ false
left_again = refl

leave_not_applied : stands (join 1 true ∷ leave 1 false ∷ []) ≡ true
leave_not_applied = refl

other_port : stands (join 2 true ∷ leave 1 true ∷ []) ≡ false
other_port = refl

others_between : stands (join 1 true ∷ Did (Wipe (codes "s1")) true (Ok Done) ∷ join 2 true ∷ []) ≡ true
others_between = refl
