-- The addresses at which a server may listen. The grammar of such texts is that of std.
use Rattle.std.specs.Net.Grammar.{IsSocketText}
use Rattle.std.specs.Net.Reader.{read_socket_v4, read_socket_v6, whole_value}
use Rattle.std.specs.Prelude.{ℕ, Bool, ◌||◌, is_some, List}
use Rattle.std.specs.declared.net.socket_addr.SocketAddr.{SocketAddr}

-- a text spells an IP address and a port: `IP:port`, an IPv6 address in brackets
pub record SpellsAddress (text : List ℕ) : Type 0 where
  pub address : SocketAddr
  pub spelled : IsSocketText text address

-- the test of it, as the readers of std take it
unfoldable pub is_address : List ℕ → Bool
is_address text = is_some (whole_value (read_socket_v4 text)) || is_some (whole_value (read_socket_v6 text))
