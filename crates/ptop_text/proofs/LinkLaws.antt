-- Links by what stands after the colon of their first end, and fields after slices.
use Rattle.std.proofs.Common.{◌≡◌, ℕ, List, ap}
use Rattle.ptop_text.specs.declared.link.FirstEnd.{FirstEnd}
use Rattle.ptop_text.specs.declared.link.FirstEnd.TheVariants as ends
use Rattle.ptop_text.specs.declared.so_far.LabSoFar.{LabSoFar}
use Rattle.ptop_text.specs.Lines.{LinkRead}
use Rattle.ptop_text.specs.Adding.{with_link}

pub port_link : (so_far : LabSoFar) (read : LinkRead) (port : ℕ) → read.1.0.1 ≡ ends.Port port
    → with_link so_far read ≡ with_link so_far (read.0, ((read.1.0.0, ends.Port port), read.1.1))
port_link so_far read port is = ap (λ (end : FirstEnd). with_link so_far (read.0, ((read.1.0.0, end), read.1.1))) is

pub iface_link : (so_far : LabSoFar) (read : LinkRead) (name : List ℕ) → read.1.0.1 ≡ ends.Iface name
    → with_link so_far read ≡ with_link so_far (read.0, ((read.1.0.0, ends.Iface name), read.1.1))
iface_link so_far read name is = ap (λ (end : FirstEnd). with_link so_far (read.0, ((read.1.0.0, end), read.1.1))) is
