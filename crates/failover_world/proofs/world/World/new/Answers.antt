use Rattle.std.proofs.Common.{◌≡◌, ℕ, true, List, [], ◌∷◌, ◌++◌, replicate, Some, refl, sym, ap, subst, ◌∙◌}
use Rattle.ft_types.specs.Counts.{count_at}
use Rattle.ft_types.specs.Guests.{GuestParts, IsGuest}
use Rattle.output_gate.specs.Gates.{fresh_line}
use Rattle.guest_image.specs.Image.{ImageContents, guest_of}
use Rattle.fragment_codec.specs.Rules.{OpeningParts}
use Rattle.fragment_codec.specs.declared.frame.Frame.{Frame}
use Rattle.fragment_codec.specs.declared.frame.Frame.TheVariants.{Opening}
use Rattle.log_join.specs.Stores.{nothing}
use Rattle.primary.specs.Primaries.{IsBooted}
use Rattle.failover_world.specs.Worlds.{WorldView}
use Rattle.failover_world.proofs.Beginning.{first_world}
use Rattle.failover_world.proofs.Reviving.{unmarked}
use Rattle.failover_world.proofs.world.World.new.Goals as goal

pub invariant_of-result : goal.invariant_of-result
invariant_of-result c =
    let v : WorldView = record {
      image = c.in_ok-own.own;
      keepers = c.args.keepers;
      need = c.args.need;
      primary = c.in_ok-primary.primary;
      runs = true;
      stopped = c.new-2.result.items;
      sent = c.push.new.self.items;
      stores = c.in_ok-stores.stores.items;
      gate = c.in_ok-gate.gate;
      released = c.new-3.result.items;
    } in
    let own : c.args.image.now ≡ v.image = sym c.in_ok-own.ensures in
    let guest : c.guest-guest.result ≡ guest_of v.image = c.guest-guest.ensures ∙ ap guest_of own in
    let harts : c.harts.result ≡ (guest_of v.image).harts = c.harts.ensures.value ∙ ap (λ (g : GuestParts). g.harts) guest in
    let booted : IsBooted v.image v.primary = subst (λ (i : ImageContents). IsBooted i v.primary) own c.in_ok-primary.ensures.booted in
    let parts = c.in_ok-gate.ensures.parts in
    first_world v (record {
      guest = subst (λ (i : ImageContents). IsGuest (guest_of i)) own c.in_ok-primary.ensures.guest;
      quorum = c.requires.quorum;
      booted = booted;
      primary = c.in_ok-primary.ensures.primary;
      runs = refl;
      stopped = c.new-2.ensures.items;
      sent =
          c.in_ok-push.ensures.items
          ∙ ap (λ (fs : List Frame). fs ++ Opening c.copy.result ∷ []) c.new-sent.ensures.items
          ∙ ap (λ (o : OpeningParts). Opening o ∷ []) c.copy.ensures;
      stores = c.in_ok-stores.ensures ∙ ap (λ (g : GuestParts). replicate c.args.keepers (Some (nothing g))) guest;
      released = c.new-3.ensures.items;
      gate_term = parts.0;
      gate_keepers = parts.1;
      gate_need = parts.2;
      gate_harts = c.in_ok-gate.ensures.harts ∙ harts;
      acked = c.in_ok-gate.ensures.acked ∙ ap (λ (n : ℕ). let zero : ℕ = 0 in replicate c.args.keepers (replicate n zero)) harts;
      lines = λ hart. c.in_ok-gate.ensures.lines hart ∙ ap (λ (row : List ℕ). fresh_line (count_at row hart)) c.zero.ensures;
    })

pub returns-clause-gate : goal.returns-clause-gate
returns-clause-gate c =
    let made = c.in_ok-gate.ensures in
    let harts : c.harts.result ≡ c.args.image.now.harts = c.harts.ensures.value ∙ ap (λ (g : GuestParts). g.harts) c.guest-guest.ensures in
    unmarked c.in_ok-gate.gate c.args.keepers c.args.need c.args.image.now.harts c.harts.result c.zero.result harts c.zero.ensures made.harts made.parts
    made.acked made.noted made.lines
