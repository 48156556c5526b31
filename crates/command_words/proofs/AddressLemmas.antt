-- The test of addresses is that of their grammar.
use Rattle.std.proofs.Common.{◌≡◌, ℕ, Bool, true, false, ◌||◌, is_some, is_ok, List, [], ◌∷◌, length, Some, None, Result, Ok, Err, refl, sym, ap, ◌∙◌, subst, append-nil, ne_eqb, arith}
use Rattle.std.proofs.NetLemmas.Sockets.{read_socket_v4_complete, read_socket_v4_sound, read_socket_v6_complete, read_socket_v6_sound}
use Rattle.std.specs.Net.Grammar.{IsSocketText, IsSocketV4Text, IsSocketV6Text, Parses}
use Rattle.std.specs.Net.Reader.{Read, read_socket_v4, read_socket_v6, whole_value}
use Rattle.std.specs.declared.net.socket_addr.SocketAddr.{SocketAddr}
use Rattle.std.specs.declared.net.socket_addr.SocketAddr.TheVariants as Socket
use Rattle.std.specs.declared.net.socket_addr.SocketAddrV4.{SocketAddrV4}
use Rattle.std.specs.declared.net.socket_addr.SocketAddrV6.{SocketAddrV6}
use Rattle.command_words.specs.Addresses.{SpellsAddress, is_address}

-- a value with nothing left behind it was read to the end of its text
at-end : {A : Type 0} (a : A) (rest : List ℕ) → is_some (whole_value (Some (a, rest))) ≡ true → rest ≡ []
at-end a [] e = refl
at-end a (byte ∷ rest) e = (let more = ne_eqb (length (byte ∷ rest)) 0 (omega arith) in cc)

whole-read : {A : Type 0} (read : Read A) → is_some (whole_value read) ≡ true → (a : A) × (read ≡ Some (a, []))
whole-read None e = absurd (cc)
whole-read (Some p) e = (p.0, ap (λ (rest : List ℕ). Some (p.0, rest)) (at-end p.0 p.1 e))

-- what is read to its end is spelled
v4-spelled : (text : List ℕ) → is_some (whole_value (read_socket_v4 text)) ≡ true → SpellsAddress text
v4-spelled text e =
    let whole = whole-read (read_socket_v4 text) e in
    let address : SocketAddrV4 = record { ip = record { octets = whole.0.0 }; port = whole.0.1 } in
    let read = read_socket_v4_sound text [] address whole.1 in
    record {
      address = Socket.V4 address;
      spelled = subst (λ (t : List ℕ). IsSocketV4Text t address) (sym (read.1 ∙ append-nil read.0)) read.2;
    }

v6-spelled : (text : List ℕ) → is_some (whole_value (read_socket_v6 text)) ≡ true → SpellsAddress text
v6-spelled text e =
    let whole = whole-read (read_socket_v6 text) e in
    let address : SocketAddrV6 =
    record { ip = record { segments = whole.0.0 }; port = whole.0.1; flowinfo = whole.0.2; scope_id = whole.0.3 } in
    let read = read_socket_v6_sound text [] address whole.1 in
    record {
      address = Socket.V6 address;
      spelled = subst (λ (t : List ℕ). IsSocketV6Text t address) (sym (read.1 ∙ append-nil read.0)) read.2;
    }

-- one of two tests is true
either : {A : Type 0} (x y : Bool) → (x ≡ true → A) → (y ≡ true → A) → (x || y) ≡ true → A
either true y first second e = first refl
either false y first second e = second e

or-second : (x y : Bool) → y ≡ true → (x || y) ≡ true
or-second true y e = refl
or-second false y e = e

-- the test is true of what is spelled, and of nothing else
pub address-spelled : (text : List ℕ) → is_address text ≡ true → SpellsAddress text
unfolding is_address
address-spelled text e =
    either (is_some (whole_value (read_socket_v4 text))) (is_some (whole_value (read_socket_v6 text))) (v4-spelled text)
    (v6-spelled text) e

spelled-address : (text : List ℕ) (address : SocketAddr) → IsSocketText text address → is_address text ≡ true
unfolding is_address
spelled-address text (Socket.V4 address) is =
    ap (λ (read : Read (List ℕ × ℕ)). is_some (whole_value read) || is_some (whole_value (read_socket_v6 text)))
    (read_socket_v4_complete text address is)
spelled-address text (Socket.V6 address) is =
    or-second (is_some (whole_value (read_socket_v4 text))) (is_some (whole_value (read_socket_v6 text)))
    (ap (λ (read : Read (List ℕ × ℕ × ℕ × ℕ)). is_some (whole_value read)) (read_socket_v6_complete text address is))

-- the parser of std answers it
pub parsed-is : {E : Type 0} (text : List ℕ) (parsed : Result SocketAddr E) → Parses IsSocketText text parsed → is_ok parsed ≡ is_address text
parsed-is text (Ok address) is = sym (spelled-address text address is)
parsed-is text (Err e) none = go (is_address text) refl
  where
    go : (b : Bool) → is_address text ≡ b → false ≡ b
    go true is = (let spells = address-spelled text is in absurd (none spells.address spells.spelled))
    go false is = refl

-- the same in the words of the grammar
pub spelled-is : (text : List ℕ) → SpellsAddress text → is_address text ≡ true
spelled-is text spells = spelled-address text spells.address spells.spelled
