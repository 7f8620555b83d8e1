-- Where the names of a guard are declared and its numbers are small, all that stands in its
-- numbered form is in range.
use Rattle.std.proofs.Common.{◌≡◌, ℕ, ◌<◌, true, false, ◌&&◌, ◌||◌, List, map, length, ap, arith}
use Rattle.std.proofs.Common.{Option, Some, None, unwrap_or}
use Rattle.std.specs.Option.{option_map}
use Rattle.std.specs.Prelude.{nat_lt}
use Rattle.std.proofs.lemmas.Bool.{and_parts, or_parts}
use Rattle.std.proofs.lemmas.List.{length-map}
use Rattle.proto_model.specs.Tokens.{Text}
use Rattle.proto_model.specs.Names.{is_declared, message_names}
use Rattle.proto_model.specs.Known.{knows_var, knows_term, knows_expr, knows_partner, knows_bound}
use Rattle.proto_model.specs.Known.{knows_value, knows_action}
use Rattle.proto_model.specs.Faults.{is_large_term, is_large_expr, is_large_action, is_star_partner}
use Rattle.proto_model.specs.Faults.{is_star}
use Rattle.proto_model.specs.Numbered.{place_or_zero, numbered_var, numbered_term, numbered_expr}
use Rattle.proto_model.specs.Numbered.{numbered_partner, numbered_action, numbered_declaration}
use Rattle.proto_model.specs.Numbered.{numbered_message}
use Rattle.proto_model.specs.Proper.{IsTermInRange, IsExprInRange, IsPartnerInRange, IsBoundInRange}
use Rattle.proto_model.specs.Proper.{IsValueInRange, IsActionInRange}
use Rattle.proto_model.specs.declared.protocol.Message.{Message}
use Rattle.proto_model.specs.declared.protocol.Var.{Var}
use Rattle.proto_model.specs.declared.guard.Term.{Term}
use Rattle.proto_model.specs.declared.guard.Term.TheVariants as term
use Rattle.proto_model.specs.declared.guard.Expr.{Expr}
use Rattle.proto_model.specs.declared.guard.Expr.TheVariants as expr
use Rattle.proto_model.specs.declared.guard.Partner.{Partner}
use Rattle.proto_model.specs.declared.guard.Partner.TheVariants as partner
use Rattle.proto_model.specs.declared.guard.GuardKind.{GuardKind}
use Rattle.proto_model.specs.declared.guard.GuardKind.TheVariants as action
use Rattle.proto_model.specs.declared.numbered.Side.{Side}
use Rattle.proto_model.specs.declared.numbered.Side.TheVariants as side
use Rattle.star_check.proofs.Found.{found}
use Rattle.star_check.proofs.SameTypes.{infos}

pub place_in_range : {A B : Type 0} (name_of : A → Text) (numbered_form : A → B) (declared : List A)
    (name : Text) → is_declared name (map name_of declared) ≡ true
    → place_or_zero name (map name_of declared) < length (map numbered_form declared)
place_in_range name_of numbered_form declared name known =
    let f = found name_of declared name known in
    let e : place_or_zero name (map name_of declared) ≡ f.place = ap (λ o. unwrap_or o 0) f.at in
    let l : length (map numbered_form declared) ≡ length declared = length-map declared
    numbered_form in
    let w : f.place < length declared = f.within in
    omega arith

small : (n : ℕ) → nat_lt 65535 n ≡ false → n < 65536
small n e = grind arith

module _ (vars : List Var) where
  pub var_in_range : (name : Text) → knows_var vars name ≡ true
      → numbered_var vars name < length (infos vars)
  var_in_range name known = place_in_range (λ v. v.name) numbered_declaration vars name known

  term_in_range : (t : Term) → knows_term vars t ≡ true → is_large_term t ≡ false
      → IsTermInRange (length (infos vars)) (numbered_term vars t)
  term_in_range (term.Number n) known fits = small n fits
  term_in_range (term.Named name) known fits = var_in_range name known
  term_in_range term.Nowhere known fits = tt
  term_in_range term.Empty known fits = tt

  terms_in_range : (t u : Term) → (knows_term vars t && knows_term vars u) ≡ true
      → (is_large_term t || is_large_term u) ≡ false
      → IsTermInRange (length (infos vars)) (numbered_term vars t)
      × IsTermInRange (length (infos vars)) (numbered_term vars u)
  terms_in_range t u known fits =
      let both = and_parts (knows_term vars t) (knows_term vars u) known in
      let neither = or_parts (is_large_term t) (is_large_term u) fits in
      (term_in_range t both.0 neither.0, term_in_range u both.1 neither.1)

  pub expr_in_range : (e : Expr) → knows_expr vars e ≡ true → is_large_expr e ≡ false
      → IsExprInRange (length (infos vars)) (numbered_expr vars e)
  expr_in_range (expr.One t) known fits = term_in_range t known fits
  expr_in_range (expr.Plus t u) known fits = terms_in_range t u known fits
  expr_in_range (expr.Minus t u) known fits = terms_in_range t u known fits

  -- a remote's partner is `home`
  partner_in_range : (s : Side) (p : Partner) → knows_partner vars s p ≡ true
      → is_star_partner s p ≡ true
      → IsPartnerInRange (length (infos vars)) (numbered_partner vars p)
  partner_in_range s partner.Home known star = tt
  partner_in_range side.Home (partner.Any x) known star = var_in_range x known
  partner_in_range side.Home (partner.Member x s) known star =
      let both = and_parts (knows_var vars x) (knows_var vars s) known in
      (var_in_range x both.0, var_in_range s both.1)
  partner_in_range side.Home (partner.Named x) known star = var_in_range x known
  partner_in_range side.Remote (partner.Any x) known star = absurd (cc)
  partner_in_range side.Remote (partner.Member x s) known star = absurd (cc)
  partner_in_range side.Remote (partner.Named x) known star = absurd (cc)

  bound_in_range : (bound : Option Text) → knows_bound vars bound ≡ true
      → IsBoundInRange (length (infos vars)) (option_map (numbered_var vars) bound)
  bound_in_range None known = tt
  bound_in_range (Some x) known = var_in_range x known

  value_in_range : (s : Side) (p : Partner) (m : Text) (value : Option Expr)
      → knows_value vars value ≡ true → is_large_action (action.Output p m value) ≡ false
      → IsValueInRange (length (infos vars)) (option_map (numbered_expr vars) value)
  value_in_range s p m None known fits = tt
  value_in_range s p m (Some e) known fits = expr_in_range e known fits

  pub action_in_range : (messages : List Message) (s : Side) (kind : GuardKind)
      → knows_action vars s messages kind ≡ true → is_star s kind ≡ true
      → is_large_action kind ≡ false
      → IsActionInRange (length (infos vars)) (length (map numbered_message messages))
      (numbered_action vars messages kind)
  action_in_range messages s action.Tau known star fits = tt
  action_in_range messages s (action.Input p m bound) known star fits =
      let first = and_parts (is_declared m (message_names messages))
      (knows_partner vars s p && knows_bound vars bound) known in
      let second = and_parts (knows_partner vars s p) (knows_bound vars bound) first.1 in (
        partner_in_range s p second.0 star,
        place_in_range (λ i. i.name) numbered_message messages m
            first.0,
        bound_in_range bound second.1,
      )
  action_in_range messages s (action.Output p m value) known star fits =
      let first = and_parts (is_declared m (message_names messages))
      (knows_partner vars s p && knows_value vars value) known in
      let second = and_parts (knows_partner vars s p) (knows_value vars value) first.1 in (
        partner_in_range s p second.0 star,
        place_in_range (λ i. i.name) numbered_message messages m
            first.0,
        value_in_range s p m value second.1 fits,
      )
