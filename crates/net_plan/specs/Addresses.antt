-- The addresses of the ends of links and LANs.
use Rattle.std.specs.Prelude.{ℕ, ◌+◌, ◌*◌, ◌/◌, Bool, false, not, ◌||◌, ◌==◌, nat_le, nat_eq, List, [], ◌∷◌, map, Option, Some, None, option_map, option_and_then, if◌then◌else◌}
use Rattle.std.specs.List.{find, filter_map, flat_map, list_any, range_with_len}
use Rattle.virt_topo.specs.declared.wiring.VirtEnd.{VirtEnd}
use Rattle.virt_topo.specs.declared.topo.AskedLink.{AskedLink}
use Rattle.virt_topo.specs.Repeats.{stands_again}

-- the addresses that ends have, in order
abbrev pub addresses_of : List VirtEnd → List ℕ
addresses_of ends = filter_map (λ e. e.address) ends

abbrev pub ends_of : List AskedLink → List VirtEnd
ends_of links = flat_map (λ l. l.ends) links

-- WHAT EXPLICIT ADDRESSES MAY NOT BE

-- two addresses are in two subnets, each of 256 addresses
abbrev pub are_in_two_subnets : Option ℕ → Option ℕ → Bool
are_in_two_subnets (Some a) (Some b) = not (a / 256 == b / 256)
are_in_two_subnets a b = false

abbrev pub has_two_subnets : AskedLink → Bool
has_two_subnets l = list_any (λ d. list_any (λ e. are_in_two_subnets d.address e.address) l.ends) l.ends

-- an explicit address is given twice, or one link's explicit addresses are in two subnets
abbrev pub has_bad_address : List AskedLink → Bool
has_bad_address links = list_any has_two_subnets links || stands_again nat_eq (addresses_of (ends_of links))

-- THE SUBNET OF A LINK OR LAN

-- for number k: 10.1.k.0/24, without its last number
abbrev pub numbered_subnet : ℕ → Option ℕ
numbered_subnet k = if nat_le k 254 then Some ((10 * 256 + 1) * 256 + k) else None

-- that of its first explicit address comes before
abbrev pub subnet_of : ℕ → List ℕ → Option ℕ
subnet_of k [] = numbered_subnet k
subnet_of k (a ∷ explicit) = Some (a / 256)

-- THE ADDRESS OF EACH END, WHERE `used` TELLS WHICH ARE USED ALREADY

-- the addresses of a subnet, with host numbers from 1 to 254
unfoldable pub hosts : ℕ → List ℕ
hosts subnet = map (λ host. subnet * 256 + host) (range_with_len 1 254)

-- its own, or the first of its subnet that is not used
abbrev pub address_for : (ℕ → Bool) → Option ℕ → Option ℕ → Option ℕ
address_for used subnet (Some own) = Some own
address_for used (Some subnet) None = find (λ a. not (used a)) (hosts subnet)
address_for used None None = None

-- these are used
abbrev pub uses : List ℕ → (ℕ → Bool)
uses addresses = λ a. list_any (nat_eq a) addresses

-- one of these is used already, or stands again
abbrev pub repeats : (ℕ → Bool) → List ℕ → Bool
repeats used addresses = list_any used addresses || stands_again nat_eq addresses

-- one address more is used
abbrev pub taken : (ℕ → Bool) → ℕ → (ℕ → Bool)
taken used a = λ b. (a == b) || used b

abbrev pub all_taken : (ℕ → Bool) → List ℕ → (ℕ → Bool)
all_taken used [] = used
all_taken used (a ∷ more) = all_taken (taken used a) more

-- each end in order, with its address; None where one gets none
abbrev pub addressed_ends : (ℕ → Bool) → Option ℕ → List VirtEnd → Option (List VirtEnd)
addressed_ends used subnet [] = Some []
addressed_ends used subnet (e ∷ ends) =
    option_and_then (λ a. option_map (λ rest. record { node = e.node; address = Some a } ∷ rest) (addressed_ends (taken used a) subnet ends)) (address_for used subnet e.address)

-- each link and LAN in order, the first of them having number k
abbrev pub addressed_from : (ℕ → Bool) → ℕ → List AskedLink → Option (List AskedLink)
addressed_from used k [] = Some []
addressed_from used k (l ∷ links) =
    option_and_then (λ ends. option_map (λ rest. record { name = l.name; lan = l.lan; rates = l.rates; multiplexed = l.multiplexed; ends = ends } ∷ rest) (addressed_from (all_taken used (addresses_of ends)) (k + 1) links))
    (addressed_ends used (subnet_of k (addresses_of l.ends)) l.ends)

-- from the first one on, where all explicit addresses are used
abbrev pub addressed : List AskedLink → Option (List AskedLink)
addressed links = addressed_from (all_taken (λ a. false) (addresses_of (ends_of links))) 1 links
