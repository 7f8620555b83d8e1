-- The rules of claims.
use Rattle.std.proofs.Common.{◌≡◌, Bool, true, List, [], ◌∷◌, ◌++◌, map, refl, ap, inl, inr, codes}
use Rattle.std.specs.List.{flat_map, AllByRecursion}
use Rattle.proto_model.specs.Tokens.{Text, Token, item, part, is_word, is_reserved, IsName}
use Rattle.proto_model.specs.Grammar.{semicolon, number_token, claim_tokens}
use Rattle.proto_model.specs.Sayable.{AreNames, IsSayableClaim}
use Rattle.proto_model.specs.declared.protocol.Claim.{Claim}
use Rattle.proto_model.specs.declared.protocol.Claim.TheVariants as claims
use Rattle.protocol_reader.specs.Reading.{is_among, is_name, in_front_of, names, ClaimParts}
use Rattle.protocol_reader.specs.Reading.{claim_of, claim}
use Rattle.protocol_reader.proofs.Tokens.{name_is}
use Rattle.protocol_reader.proofs.Rule.{IsRule}
use Rattle.protocol_reader.proofs.Choices.{free, token_rule, choice_rule, made_rule, mapped_rule}
use Rattle.protocol_reader.proofs.Words.{name_tokens, name_rule, number_rule}
use Rattle.protocol_reader.proofs.Repeated.{Begins, many_rule, many_stops}
use Rattle.protocol_reader.proofs.Sequences.{filled, many_stop, both_free, then_token}
use Rattle.protocol_reader.proofs.Sequences.{differs_begun}

-- ---- NAME NAME*

pub name_begins : Begins is_name name_tokens IsName free
name_begins = record {
  first = λ n. part n;
  rest = λ n. [];
  parts = λ n ok. refl;
  first_comes = λ n ok. name_is n ok;
  stops = λ n t ok e. refl;
}

abbrev names_parts : List Text → Text × List Text
names_parts [] = ([], [])
names_parts (n ∷ more) = (n, more)

abbrev pub names_tokens : List Text → List Token
names_tokens ns = map part ns

-- a further name goes on with them
abbrev pub names_stops : List Text → Text → Bool
names_stops ns t = many_stops is_name free (names_parts ns).1 t

map-name : (ns : List Text) → map part ns ≡ flat_map name_tokens ns
map-name [] = refl
map-name (n ∷ ns) = ap (λ (ts : List Token). part n ∷ ts) (map-name ns)

names_whole : (ns : List Text) → AreNames ns → in_front_of (names_parts ns) ≡ ns
names_whole [] ok = absurd ok
names_whole (n ∷ more) ok = refl

names_spelled : (ns : List Text) → AreNames ns
    → names_tokens ns ≡ name_tokens (names_parts ns).0 ++ flat_map name_tokens (names_parts ns).1
names_spelled [] ok = absurd ok
names_spelled (n ∷ more) ok = ap (λ (ts : List Token). part n ∷ ts) (map-name more)

names_into : (ns : List Text) → AreNames ns
    → IsName (names_parts ns).0 × AllByRecursion IsName (names_parts ns).1
names_into [] ok = absurd ok
names_into (n ∷ more) ok = ok

pub names_rule : IsRule names names_tokens AreNames names_stops
unfolding names
names_rule =
    made_rule (both_free name_rule (many_rule is_name name_rule name_begins))
    in_front_of names_parts
    names_whole
    (λ p. refl)
    names_spelled
    names_into
    (λ p ok. ok)
    (λ ns t. refl)

semicolon_stops : (ns : List Text) → AreNames ns → names_stops ns (codes ";") ≡ true
unfolding is_name is_reserved is_word
semicolon_stops ns ok = many_stop is_name (codes ";") refl (names_parts ns).1

-- ---- 'claim' ( 'atmost' NUMBER 'in' NAME NAME* ';' | 'not' NAME 'with' NAME ';' )

abbrev claim_parts : Claim → Unit {0} × ClaimParts
claim_parts (claims.AtMost most states) = (tt, inl (most, (tt, (states, tt))))
claim_parts (claims.Apart x y) = (tt, inr (tt, (x, (tt, (y, tt)))))

claim_part : (p : Unit {0} × ClaimParts) → claim_parts (claim_of p) ≡ p
claim_part (u, inl p) = refl
claim_part (u, inr p) = refl

pub claim_rule : IsRule claim claim_tokens IsSayableClaim free
unfolding claim
claim_rule =
    mapped_rule
    (both_free (token_rule (item (codes "claim")) (filled _ refl))
    (choice_rule (part (codes "atmost")) (filled _ refl)
    (both_free number_rule (both_free (token_rule (part (codes "in")) (filled _ refl))
    (then_token semicolon names_rule (filled _ refl) semicolon_stops)))
    (both_free (token_rule (part (codes "not")) (filled _ refl))
    (both_free name_rule (both_free (token_rule (part (codes "with")) (filled _ refl))
    (both_free name_rule (token_rule semicolon (filled _ refl))))))
    (differs_begun (part (codes "atmost")) (part (codes "not")) _ _ refl)))
    claim_of claim_parts
    (elim [ claims.AtMost most states ↦ refl | claims.Apart x y ↦ refl ])
    claim_part
    (elim [ claims.AtMost most states ↦ refl | claims.Apart x y ↦ refl ])
    (elim [
      | claims.AtMost most states ↦ λ ok. (tt, (ok.0, (tt, (ok.1, tt))))
      | claims.Apart x y ↦ λ ok. (tt, (tt, (ok.0, (tt, (ok.1, tt)))))
    ])
    (elim [
      | claims.AtMost most states ↦ λ ok. (ok.1.0, ok.1.1.1.0)
      | claims.Apart x y ↦ λ ok. (ok.1.1.0, ok.1.1.1.1.0)
    ])
    (elim [ claims.AtMost most states ↦ λ t. refl | claims.Apart x y ↦ λ t. refl ])

abbrev claim_rest : Claim → List Token
claim_rest (claims.AtMost most states) =
    part (codes "atmost") ∷ number_token most ∷ part (codes "in")
    ∷ (map part states ++ semicolon ∷ [])
claim_rest (claims.Apart x y) =
    part (codes "not") ∷ part x ∷ part (codes "with") ∷ part y ∷ semicolon ∷ []

claim_split : (c : Claim) → claim_tokens c ≡ item (codes "claim") ∷ claim_rest c
claim_split (claims.AtMost most states) = refl
claim_split (claims.Apart x y) = refl

pub claim_begins : Begins (is_among (codes "claim" ∷ [])) claim_tokens IsSayableClaim free
claim_begins = record {
  first = λ c. item (codes "claim");
  rest = claim_rest;
  parts = λ c ok. claim_split c;
  first_comes = λ c ok. refl;
  stops = λ c t ok e. refl;
}
